use Rattle.std.proofs.Common.{List, subst, rules}
use Rattle.std.specs.Prelude.{option_map}
use Rattle.nesl_types.specs.declared.classes.Class.{Class}
use Rattle.nesl_types.specs.Class.{class_at}
use Rattle.nesl_types.specs.Scheme.{IsSchemeOf}
use Rattle.nesl_types_shared.specs.Term.{Term}
use Rattle.nesl_syntax_tree.specs.Views.{tree_of, pattern_tree, signature_tree}
use Rattle.nesl_unify.specs.Solves.{type_of, class_of}
use Rattle.nesl_infer_rules.specs.declared.state.State.{State}
use Rattle.nesl_infer_rules.specs.Principal.{TypedFunction}
use Rattle.nesl_infer.proofs.Wholes.{IsEmpty}
use Rattle.nesl_infer.proofs.Functions.{whole, scheme_principal}
use Rattle.nesl_infer.proofs.infer.principal_scheme.Goals as goal

pub returns-in_err-solution-clause-ill_typed : goal.returns-in_err-solution-clause-ill_typed
returns-in_err-solution-clause-ill_typed g c = λ f of t u h.
    let F = TypedFunction c.args.context.now c.args.name.now (pattern_tree c.args.pattern.now) (option_map signature_tree c.args.signature.now) (tree_of c.args.body.now) in
    let first : State = c.new-state.result in
    let empty : IsEmpty first = c.new-state.ensures in
    let ends = c.in_ok-ends.ends in
    let w = whole {A = first} {C = c.constrain_function.new.state} ends.takes ends.gives F empty c.in_ok-ends.ensures in
    let z = w.complete of t u h in
    c.in_err-solution.ensures.none (search rules) z.0 of z.2 z.1

pub returns-clause-principal : goal.returns-clause-principal
returns-clause-principal g c =
    let F = TypedFunction c.args.context.now c.args.name.now (pattern_tree c.args.pattern.now) (option_map signature_tree c.args.signature.now) (tree_of c.args.body.now) in
    let first : State = c.new-state.result in
    let empty : IsEmpty first = c.new-state.ensures in
    let C = c.constrain_function.new.state in
    let ends = c.in_ok-ends.ends in
    let w = whole {A = first} {C = C} ends.takes ends.gives F empty c.in_ok-ends.ensures in
    let a = c.in_ok-solution.solution in
    let q = c.in_ok-solution.ensures in
    let s = c.in_ok-scheme.scheme in
    let is : IsSchemeOf (type_of a ends.takes) (type_of a ends.gives) (class_of a) s =
    subst (λ (cs : List Class). IsSchemeOf (type_of a ends.takes) (type_of a ends.gives) (class_at cs) s) c.as_slice.ensures.value
    (subst (λ (x : Term). IsSchemeOf (type_of a ends.takes) x (class_at c.as_slice.result.now) s) c.in_ok-gives.ensures
    (subst (λ (x : Term). IsSchemeOf x c.in_ok-gives.gives (class_at c.as_slice.result.now) s) c.in_ok-takes.ensures c.in_ok-scheme.ensures)) in
    scheme_principal C ends.takes ends.gives F w (type_of a) (class_of a) q.bounded q.solves q.general s is
    c.variables_have_classes.ensures.argument c.variables_have_classes.ensures.result
