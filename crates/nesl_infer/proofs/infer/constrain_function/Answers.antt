use Rattle.std.proofs.Common.{ℕ, List, subst}
use Rattle.std.specs.Prelude.{option_map}
use Rattle.nesl_types_shared.specs.Term.{Term}
use Rattle.nesl_syntax_tree.specs.Views.{tree_of, pattern_tree, signature_tree}
use Rattle.nesl_infer_rules.specs.declared.state.Local.{Local}
use Rattle.nesl_infer_rules.specs.World.{meanings_in}
use Rattle.std.specs.Prelude.{Some}
use Rattle.nesl_infer_rules.specs.Typing.{PatternAdds}
use Rattle.nesl_infer_rules.specs.Principal.{bounded, TypedFunction}
use Rattle.nesl_infer_rules.specs.Steps.{Gives, AddsNames}
use Rattle.nesl_infer.proofs.Functions.{arm_function}
use Rattle.nesl_infer.proofs.infer.constrain_function.Goals as goal

pub returns : goal.returns
returns g c =
    let context = c.args.context.now in
    let p = pattern_tree c.args.pattern.now in
    let s1 = option_map signature_tree c.args.signature.now in
    let e = tree_of c.args.body.now in
    let x = c.in_ok-name.name.items in
    let t = c.in_ok-takes.takes in
    let u = c.in_ok-gives.gives in
    let ms = c.constrain_pattern.new.locals in
    subst (λ (y : List ℕ). Gives {X = Term × Term} c.args.state.now c.constrain_whole.new.state (λ s. (s t, s u)) (λ s of k. TypedFunction context y p s1 e of k.0 k.1)) c.in_ok-name.ensures.items
    (arm_function context x p s1 e t u ms c.in_ok-takes.ensures.gives c.in_ok-gives.ensures.gives
    (subst (λ (ks : List Local). AddsNames c.add_any-2.new.self c.constrain_pattern.new.state ks ms (λ s of ns. PatternAdds (bounded (meanings_in context (Some (x, s t, s u))) of) p (s t) ns)) c.new-locals.ensures c.in_ok-constrain_pattern.ensures)
    c.in_ok-constrain_signature.ensures
    c.in_ok-constrain_whole.ensures.adds)
