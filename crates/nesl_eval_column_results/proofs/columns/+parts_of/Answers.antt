use Rattle.std.proofs.Common.{◌∷◌, ap, ◌∙◌, subst}
use Rattle.nesl_eval_columns.proofs.Turns.{some_so}
use Rattle.nesl_eval_column_results.specs.Columns.{value_at, Leads}
use Rattle.nesl_eval_column_results.proofs.Valued.{none_len, no_steps, to_left, to_right}
use Rattle.nesl_eval_column_results.proofs.columns.+parts_of.Goals as goal

pub returns-in_default : goal.returns-in_default
returns-in_default g t c =
    let one = c.in-Pair.one.value in
    let other = c.in-Pair.other.value in
    let left = c.in_ok-left-in-Pair.left in
    let right = c.in_ok-right-in-Pair.right in
    let none = none_len c.args.steps.now c.in_default.ensures.cases in
    rw (c.in-Pair.is) (some_so _ _ (λ d h. no_steps c.args.steps.now (value_at one) (value_at other) (value_at left) (value_at right) (value_at d) none (rw (← c.deref.ensures) c.in_ok-left-in-Pair.ensures) (rw (← c.deref-in_default.ensures) c.in_ok-right-in-Pair.ensures) h) c.boxed.result c.boxed.ensures)

pub returns-in-Left : goal.returns-in-Left
returns-in-Left g t c =
    let one = c.in-Pair.one.value in
    let other = c.in-Pair.other.value in
    let rest = c.in-Some.rest.now in
    rw (c.in-Pair.is) (some_so _ _ (λ d h. to_left c.args.steps.now rest (value_at one) (value_at other) (value_at d) (c.in-Some.ensures.cases.0 ∙ ap (λ s. s ∷ rest) c.in-Left.is) (subst (λ u. Leads rest (value_at u) (value_at d)) c.deref-in-Left.ensures h)) c.parts_of-in-Left.result c.parts_of-in-Left.ensures)

pub returns-in-Right : goal.returns-in-Right
returns-in-Right g t c =
    let one = c.in-Pair.one.value in
    let other = c.in-Pair.other.value in
    let rest = c.in-Some.rest.now in
    rw (c.in-Pair.is) (some_so _ _ (λ d h. to_right c.args.steps.now rest (value_at one) (value_at other) (value_at d) (c.in-Some.ensures.cases.0 ∙ ap (λ s. s ∷ rest) c.in-Right.is) (subst (λ u. Leads rest (value_at u) (value_at d)) c.deref-in-Right.ensures h)) c.parts_of-in-Right.result c.parts_of-in-Right.ensures)
