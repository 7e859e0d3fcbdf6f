use Rattle.std.proofs.Common.{◌≡◌, ℕ, List, map, sym, ap, subst, ◌∙◌}
use Rattle.nesl_types.specs.declared.classes.Class.{Class}
use Rattle.nesl_types_shared.specs.Term.{Term}
use Rattle.nesl_types_shared.specs.Kinds.{kind_type}
use Rattle.nesl_types_shared.specs.Substitution.{substitute}
use Rattle.nesl_builtins.specs.FunctionTypes.{builtin_type}
use Rattle.nesl_builtins.proofs.Numbered.{within}
use Rattle.nesl_infer_rules.specs.declared.state.State.{State}
use Rattle.nesl_infer_rules.specs.Instances.{type_in}
use Rattle.nesl_infer_rules.specs.Steps.{Adds}
use Rattle.nesl_infer_rules.proofs.Instances.{arm_instance_of_two, Fresh}
use Rattle.nesl_infer_rules.proofs.apply.constrain_operator.Goals as goal

pub returns-in_ok-equate_part-in-Both-3 : goal.returns-in_ok-equate_part-in-Both-3
returns-in_ok-equate_part-in-Both-3 c =
    let b = c.args.builtin in
    let vs = c.in_ok-fresh-in-Both.fresh.items in
    let l = c.in-Both.left in
    let r = c.in-Both.right in
    let B1 = c.instantiate.new.state in
    let B2 = c.equate_part.new.state in
    let B3 = c.equate_part-in-Both.new.state in
    let C = c.equate_part-in-Both-2.new.state in
    let at : State → State → List ℕ → ℕ → Term → Type 0 = λ A B ws v t. Adds A B (λ z of. z v ≡ substitute (type_in (map z ws)) t) in
    arm_instance_of_two (builtin_type b) l r vs c.args.first c.args.second c.args.target (sym c.takes.ensures ∙ sym c.kind.ensures ∙ ap kind_type c.in-Both.is)
    c.requires.first c.requires.second c.requires.target (within b).0 (within b).1
    (subst (λ (cs : List Class). Fresh c.args.state.now B1 cs vs) c.classes.ensures c.in_ok-fresh-in-Both.ensures.gives)
    (subst (λ (ws : List ℕ). at B1 B2 ws c.args.first l) c.as_slice.ensures.value c.in_ok-equate_part-in-Both.ensures)
    (subst (λ (ws : List ℕ). at B2 B3 ws c.args.second r) c.as_slice-in-Both.ensures.value c.in_ok-equate_part-in-Both-2.ensures)
    (subst (λ (t : Term). at B3 C vs c.args.target t) c.gives.ensures (subst (λ (ws : List ℕ). at B3 C ws c.args.target c.gives.result) c.as_slice-in-Both-2.ensures.value c.in_ok-equate_part-in-Both-3.ensures))
