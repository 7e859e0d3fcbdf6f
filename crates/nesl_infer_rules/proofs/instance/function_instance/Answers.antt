use Rattle.std.proofs.Common.{◌≡◌, ℕ, List, map, subst}
use Rattle.nesl_types.specs.declared.classes.Class.{Class}
use Rattle.nesl_types_shared.specs.Substitution.{substitute}
use Rattle.nesl_infer_rules.specs.Instances.{type_in}
use Rattle.nesl_infer_rules.specs.Steps.{Adds}
use Rattle.nesl_builtins.specs.FunctionTypes.{function_type}
use Rattle.nesl_infer_rules.proofs.Instances.{arm_instance, Fresh}
use Rattle.nesl_infer_rules.proofs.instance.function_instance.Goals as goal

pub returns : goal.returns
returns c =
    let s = c.args.scheme.now in
    let vs = c.in_ok-fresh.fresh.items in
    arm_instance (function_type s) vs c.args.given c.args.target c.requires.given c.requires.target c.variables_have_classes.ensures.argument c.variables_have_classes.ensures.result
    (subst (λ (cs : List Class). Fresh c.args.state.now c.instantiate.new.state cs vs) c.as_slice.ensures.value c.in_ok-fresh.ensures.gives)
    (subst (λ (ws : List ℕ). Adds c.instantiate.new.state c.equate_type.new.state (λ z of. z c.args.given ≡ substitute (type_in (map z ws)) s.argument)) c.as_slice-2.ensures.value c.in_ok-equate_type.ensures)
    (subst (λ (ws : List ℕ). Adds c.equate_type.new.state c.equate_type-2.new.state (λ z of. z c.args.target ≡ substitute (type_in (map z ws)) s.result)) c.as_slice-3.ensures.value c.in_ok-equate_type-2.ensures)
