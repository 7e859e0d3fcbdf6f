use Rattle.std.proofs.Common.{◌≡◌}
use Rattle.std.specs.Prelude.{Some, None}
use Rattle.nesl_infer_rules.specs.Steps.{scope_at}
use Rattle.nesl_infer_rules.specs.Typing.{is_element, newest_type}
use Rattle.nesl_infer_rules.proofs.Leaves.{looked_up, some_is, none_is}
use Rattle.nesl_infer_rules.proofs.leaf.constrain_element.Goals as goal

pub returns-in_ok-equate_flat-in-Some : goal.returns-in_ok-equate_flat-in-Some
returns-in_ok-equate_flat-in-Some c =
    let v = c.args.target in
    looked_up (λ s of o. o ≡ Some (s v)) (λ s. Some (s c.in-Some.variable)) (λ s. newest_type is_element (scope_at s c.args.locals.now)) (λ s. c.in-Some.ensures.found s)
    (some_is v c.in-Some.variable c.in_ok-equate_flat-in-Some.ensures)

pub returns-in_ok-add_contradiction-in-None : goal.returns-in_ok-add_contradiction-in-None
returns-in_ok-add_contradiction-in-None c =
    let v = c.args.target in
    looked_up (λ s of o. o ≡ Some (s v)) (λ s. None) (λ s. newest_type is_element (scope_at s c.args.locals.now)) (λ s. c.in-None.ensures.found s)
    (none_is v c.in_ok-add_contradiction-in-None.ensures)
