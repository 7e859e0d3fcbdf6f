use Rattle.std.proofs.Common.{◌≡◌, ℕ, List, ◌∷◌, ◌++◌, [], ◌∙◌, sym, subst, rules}
use Rattle.nesl_session_meaning.specs.State.{Log}
use Rattle.nesl_session_meaning.specs.Solo.{Responds}
use Rattle.nesl_line.specs.declared.guest.Stage.{Stage}
use Rattle.nesl_line.specs.declared.guest.Stage.TheVariants.{Seated}
use Rattle.nesl_line.specs.Keeping.{MarkOf}
use Rattle.nesl_line.specs.Visiting.{HeardAt, IsKeptAt}
use Rattle.nesl_line.proofs.Visits.{seated_more, lost_last}
use Rattle.nesl_line.proofs.guest.GuestHearer.hear.Goals as goal

pub returns-in-Ok-clause-heard : goal.returns-in-Ok-clause-heard
returns-in-Ok-clause-heard g c = λ first start lines texts t.
    let roster = first.table.now.roster in
    let limits = first.table.now.limits in
    let keeps = g.K.Keeper.keeps in
    let leaves = g.K.Keeper.leaves in
    let has_failed = g.K.Keeper.has_failed in
    let lease = c.in-Seated.lease in
    let after = c.speak-lease.result in
    let mid = c.args.world.now in
    let now = c.keep.new.self in
    let line = c.args.line.now in
    let was : c.args.self.now.stage ≡ Seated lease = sym c.in-Seated.ensures.value in
    let says = c.requires.1.says lease _ after c.speak-lease.ensures in
    let At : Stage → Type 0 = λ s. HeardAt keeps leaves has_failed start mid roster limits s lines texts in
    let IsKept : Stage → Type 0 = λ s. IsKeptAt keeps mid s in
    let same : c.session-in-Seated.result.now ≡ after.0.seat.session = c.session-in-Seated.ensures in
    let Is : Log → Type 0 = λ x. Responds lease.seat.session line after.1 x in
    let Left : Log → Type 0 = λ x. leaves mid now lease.seat.session x in
    let Marked : Log → Type 0 = λ x. MarkOf c.of-was.result x in
    let left = subst Left same (c.keep.ensures.left lease.seat.session after.1 (subst IsKept was c.requires.2) (subst Marked c.session.ensures c.of-was.ensures) (subst Is (sym same) says.answers)) in
    let Q : Stage → Type 0 = λ s. HeardAt keeps leaves has_failed start now roster limits s (lines ++ line ∷ []) (texts ++ after.1.bytes ∷ []) in
    let Kept : Log → Type 0 = λ x. keeps now x in (
      c.go_on-in-Ok.ensures.table ∙ t.0,
      subst Q (sym c.go_on-in-Ok.ensures.stage)
          (seated_more keeps leaves has_failed start mid now roster limits lease after lines texts line c.goes_on.ensures c.recorded_lines_grow.ensures.grow (subst At was t.1) says left (subst Kept same c.in-Ok.ensures.kept)),
    )

pub returns-in-Err-clause-heard : goal.returns-in-Err-clause-heard
returns-in-Err-clause-heard g c = λ first start lines texts t.
    let roster = first.table.now.roster in
    let limits = first.table.now.limits in
    let keeps = g.K.Keeper.keeps in
    let leaves = g.K.Keeper.leaves in
    let has_failed = g.K.Keeper.has_failed in
    let lease = c.in-Seated.lease in
    let after = c.speak-lease.result in
    let mid = c.args.world.now in
    let now = c.keep.new.self in
    let line = c.args.line.now in
    let was : c.args.self.now.stage ≡ Seated lease = sym c.in-Seated.ensures.value in
    let says = c.requires.1.says lease _ after c.speak-lease.ensures in
    let At : Stage → Type 0 = λ s. HeardAt keeps leaves has_failed start mid roster limits s lines texts in
    let IsKept : Stage → Type 0 = λ s. IsKeptAt keeps mid s in
    let same : c.session-in-Seated.result.now ≡ after.0.seat.session = c.session-in-Seated.ensures in
    let Is : Log → Type 0 = λ x. Responds lease.seat.session line after.1 x in
    let Left : Log → Type 0 = λ x. leaves mid now lease.seat.session x in
    let Marked : Log → Type 0 = λ x. MarkOf c.of-was.result x in
    let left = subst Left same (c.keep.ensures.left lease.seat.session after.1 (subst IsKept was c.requires.2) (subst Marked c.session.ensures c.of-was.ensures) (subst Is (sym same) says.answers)) in
    let Q : Stage → Type 0 = λ s. HeardAt keeps leaves has_failed start now roster limits s (lines ++ line ∷ []) (texts ++ [] ∷ []) in
    let none : c.new.result.items ≡ [] = search rules in
    let T : List ℕ → Type 0 = λ x. HeardAt keeps leaves has_failed start now roster limits c.go_on-in-Err.new.self.stage (lines ++ line ∷ []) (texts ++ x ∷ []) in (
      c.go_on-in-Err.ensures.table ∙ t.0,
      subst T (sym none) (subst Q (sym c.go_on-in-Err.ensures.stage)
          (lost_last keeps leaves has_failed start mid now roster limits lease after lines texts line (subst At was t.1) says left c.in-Err.ensures.failed)),
    )
