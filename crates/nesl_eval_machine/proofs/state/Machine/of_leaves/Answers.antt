use Rattle.std.proofs.Common.{[], ◌∷◌}
use Rattle.nesl_eval_code.specs.Exec.{with_leaves, made_of}
use Rattle.nesl_eval_ops.specs.View.{leaf_is, two_is}
use Rattle.nesl_eval_machine.specs.State.{env_of}
use Rattle.nesl_eval_machine.proofs.Hands.{found_moves}
use Rattle.nesl_eval_machine.proofs.state.Machine.of_leaves.Goals as goal

pub returns : goal.returns
returns g c = λ fits.
    let t = g.T.Tops.table c.args.tops.now in
    let k = c.args.node.now in
    let m = c.args.self.now in
    found_moves t m c.of_two_leaves-found.new.meter c.of_two_leaves-found.result c.args.next c.in_hand.result
    (with_leaves t m.levels k.height (env_of m) [] (leaf_is c.args.left.now ∷ leaf_is c.args.right.now ∷ []) (made_of k.span (two_is k.two)))
    c.in_hand.ensures c.of_two_leaves-found.ensures.meets fits
