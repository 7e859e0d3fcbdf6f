use Rattle.std.proofs.Common.{◌≡◌, ◌∙◌, ◌++◌, List, [], sym, ap, drop, arith}
use Rattle.std.proofs.lemmas.Grind.{common_steps}
use Rattle.nesl_syntax_tree.specs.declared.tree.Binding.{Binding}
use Rattle.nesl_syntax_tree.specs.Views.{binders_in}
use Rattle.nesl_infer_names.specs.Names.{all_names_bound}
use Rattle.nesl_infer_names.specs.Scopes.{locals}
use Rattle.nesl_infer_names.proofs.Loops.{bound_step}
use Rattle.nesl_infer_names.proofs.patterns.bind_all.Goals as goal

pub loop-binding-preserved : goal.loop-binding-preserved
loop-binding-preserved c =
    bound_step c.args.bindings.now c.loop-binding.binding-index c.binding-item.result (locals c.loop-binding.scope) (locals c.bind.new.scope) c.loop-binding-test.true c.binding-item.is c.in_ok-bind.ensures
    ∙ c.loop-binding.invariant

pub returns : goal.returns
returns c =
    let none : drop c.loop-binding.binding-index c.args.bindings.now ≡ [] = grind (arith, common_steps) in
    ap (λ (bs : List Binding). all_names_bound (binders_in bs) ++ locals c.loop-binding.scope) (sym none) ∙ c.loop-binding.invariant
