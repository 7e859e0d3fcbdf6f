use Rattle.std.proofs.Common.{inl, inr, refl, sym, ap, ◌∙◌, ⊎_elim, arith}
use Rattle.std.proofs.lemmas.Bool.{false≢true}
use Rattle.std.proofs.lemmas.Bool.Decides.{Decides-eqb}
use Rattle.std.proofs.lemmas.Slice.Eq.{slice_eq-Decides}
use Rattle.nesl_session_meaning.specs.State.{Log}
use Rattle.nesl_keeper.specs.Files.{head_text}
use Rattle.nesl_keeper.proofs.Heads.{no_numbers, too_great, other_head}
use Rattle.nesl_keeper.proofs.head.open.Goals as goal

pub returns-in_default-clause-refused : goal.returns-in_default-clause-refused
returns-in_default-clause-refused c = inr (refl, no_numbers c.args.limits c.args.head.now c.numbers_in.result (omega arith) c.numbers_in.ensures c.in_default.is)

pub returns-then-numbers-most_work-clause-refused : goal.returns-then-numbers-most_work-clause-refused
returns-then-numbers-most_work-clause-refused c =
    inr (refl, too_great c.args.limits c.args.head.now c.numbers_in.result c.in-Some.numbers (omega arith) c.numbers_in.ensures c.in-Some.is (⊎_elim (λ more. inl more) (λ more. inr more.1) c.then-numbers-most_work.either))

pub returns-in-Ok-2-clause-refused : goal.returns-in-Ok-2-clause-refused
returns-in-Ok-2-clause-refused c =
    inr (
      refl,
      other_head c.args.limits c.args.head.now c.numbers_in.result c.in-Some.numbers (omega arith) c.numbers_in.ensures c.in-Some.is
          (λ is. false≢true (sym c.if-eq.false ∙ (slice_eq-Decides Decides-eqb _ _ c.eq.result c.eq.ensures).1 (c.as_slice.ensures.value ∙ c.in-Ok.ensures ∙ ap (λ (log : Log). head_text log.base log.cleared) c.opened-session.ensures.opened ∙ sym is))),
    )
