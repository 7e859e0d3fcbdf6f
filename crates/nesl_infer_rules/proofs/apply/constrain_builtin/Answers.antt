use Rattle.std.proofs.Common.{◌≡◌, ℕ, List, map, subst}
use Rattle.nesl_types.specs.declared.classes.Class.{Class}
use Rattle.nesl_types_shared.specs.Term.{Term}
use Rattle.nesl_types_shared.specs.Substitution.{substitute}
use Rattle.nesl_builtins.specs.FunctionTypes.{builtin_type}
use Rattle.nesl_builtins.proofs.Numbered.{within}
use Rattle.nesl_infer_rules.specs.declared.state.State.{State}
use Rattle.nesl_infer_rules.specs.Instances.{type_in}
use Rattle.nesl_infer_rules.specs.Steps.{Adds}
use Rattle.nesl_infer_rules.proofs.Instances.{arm_instance, Fresh}
use Rattle.nesl_infer_rules.proofs.apply.constrain_builtin.Goals as goal

pub returns : goal.returns
returns c =
    let b = c.args.builtin in
    let vs = c.in_ok-fresh.fresh.items in
    let B1 = c.instantiate.new.state in
    let B2 = c.equate_part.new.state in
    let C = c.equate_part-2.new.state in
    let at : State → State → List ℕ → ℕ → Term → Type 0 = λ A B ws v t. Adds A B (λ z of. z v ≡ substitute (type_in (map z ws)) t) in
    arm_instance (builtin_type b) vs c.args.given c.args.target c.requires.given c.requires.target (within b).0 (within b).1
    (subst (λ (cs : List Class). Fresh c.args.state.now B1 cs vs) c.classes.ensures c.in_ok-fresh.ensures.gives)
    (subst (λ (t : Term). at B1 B2 vs c.args.given t) c.takes.ensures (subst (λ (ws : List ℕ). at B1 B2 ws c.args.given c.takes.result) c.as_slice.ensures.value c.in_ok-equate_part.ensures))
    (subst (λ (t : Term). at B2 C vs c.args.target t) c.gives.ensures (subst (λ (ws : List ℕ). at B2 C ws c.args.target c.gives.result) c.as_slice-2.ensures.value c.in_ok-equate_part-2.ensures))
