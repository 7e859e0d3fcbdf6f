use Rattle.std.proofs.Common.{[], ◌∷◌}
use Rattle.nesl_values.specs.View.{tree_of}
use Rattle.nesl_eval_code.specs.Exec.{with_leaves, made_of}
use Rattle.nesl_eval_ops.specs.View.{leaf_is, two_is}
use Rattle.nesl_eval_machine.specs.State.{env_of}
use Rattle.nesl_eval_machine.proofs.Hands.{found_moves}
use Rattle.nesl_eval_machine.proofs.state.Machine.of_value_and_leaf.Goals as goal

pub returns : goal.returns
returns g c = λ fits.
    let t = g.T.Tops.table c.args.tops.now in
    let k = c.args.node.now in
    let m = c.args.self.now in
    found_moves t m c.of_value_and_leaf-found.new.meter c.of_value_and_leaf-found.result c.args.next c.in_hand.result
    (with_leaves t m.levels k.height (env_of m) (tree_of c.args.value ∷ []) (leaf_is c.args.right.now ∷ []) (made_of k.span (two_is k.two)))
    c.in_hand.ensures c.of_value_and_leaf-found.ensures.meets fits
