use Rattle.std.proofs.Common.{◌≡◌, ◌++◌, ◌+◌, ℕ, List, Bor, map, drop, sym, ◌∙◌, ap, subst}
use Rattle.http1.specs.Text.{eq_ignore_case}
use Rattle.httparse.specs.Spans.{header_bytes}
use Rattle.nesl_web.specs.Access.{values_of}
use Rattle.nesl_web.proofs.AccessLemmas.{values_of_named, values_of_other}
use Rattle.nesl_web.proofs.access.values_of.Goals as goal
use Rattle.nesl_web.proofs.access.values_of.Goals.{then-eq_ignore_case+in_ok-push, else-eq_ignore_case}

pub loop-field-preserved : goal.loop-field-preserved
loop-field-preserved c =
    let name = c.args.name.now in
    let head = c.args.head.now in
    let fields = c.args.fields.now in
    let i = c.loop-field.field-index in
    let Holds : List (Bor (List ℕ)) → Type 0 = λ items. values_of name (map (header_bytes head) fields)
    ≡ map (λ v. v.now) items ++ values_of name (map (header_bytes head) (drop (i + 1) fields)) in
    let tested = ap (λ text. eq_ignore_case text name) (sym c.of.ensures) ∙ sym c.eq_ignore_case.ensures in
    elim c.if-eq_ignore_case.branch [
      | then-eq_ignore_case+in_ok-push w ↦
          subst Holds (sym (ap (λ v. v.items) w.values-is ∙ w.in_ok-push.ensures.items))
          (values_of_named name head fields i _ _ _ _ c.loop-field-test.true (tested ∙ w.if-eq_ignore_case.true)
          w.of-then-eq_ignore_case.ensures c.loop-field.invariant)
      | else-eq_ignore_case w ↦
          subst Holds (sym (ap (λ v. v.items) w.values-is))
          (values_of_other name head fields i _ _ _ c.loop-field-test.true (tested ∙ w.if-eq_ignore_case.false)
          c.loop-field.invariant)
    ]
