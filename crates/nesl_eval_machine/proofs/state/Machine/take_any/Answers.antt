use Rattle.std.proofs.Common.{sym, subst, ◌∙◌, ◌∷◌, []}
use Rattle.nesl_values.specs.View.{tree_of}
use Rattle.nesl_eval_code.specs.Block.{make}
use Rattle.nesl_eval_code.specs.Exec.{exec}
use Rattle.nesl_eval_ops.specs.View.{block_of, leaf_is, two_is}
use Rattle.nesl_eval_machine.specs.State.{env_of, local_of, left_with}
use Rattle.nesl_eval_machine.specs.Steps.{Moves}
use Rattle.nesl_eval_machine.proofs.state.Machine.take_any.Goals as goal

pub returns-in-OfTopAndLeaf : goal.returns-in-OfTopAndLeaf
returns-in-OfTopAndLeaf g c = λ fits.
    let t = g.T.Tops.table c.args.tops.now in
    let m = c.args.self.now in
    let n = c.of_value_and_leaf.new.self in
    let r = c.of_value_and_leaf.result in
    let k = c.in-OfTopAndLeaf.node in
    let next = c.ops-in-OfTopAndLeaf.ensures ∙ c.deref-in-OfTopAndLeaf.ensures in
    let done = subst (λ x. Moves t m r n (left_with t m (exec t m.levels (env_of m) (make k.height k.span (two_is k.two) 1 (leaf_is c.in-OfTopAndLeaf.right ∷ []) x) (tree_of c.args.value ∷ local_of m)))) next (c.of_value_and_leaf.ensures fits) in
    subst (λ b. Moves t m r n (left_with t m (exec t m.levels (env_of m) (block_of b) (tree_of c.args.value ∷ local_of m)))) (sym c.in-OfTopAndLeaf.is) done
