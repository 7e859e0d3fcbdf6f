use Rattle.std.proofs.Common.{[], ◌∷◌}
use Rattle.nesl_eval_code.specs.Block.{of_one}
use Rattle.nesl_eval_code.specs.Exec.{with_leaves, made_of}
use Rattle.nesl_eval_ops.specs.View.{leaf_is}
use Rattle.nesl_eval_machine.specs.State.{env_of}
use Rattle.nesl_eval_machine.proofs.Hands.{found_moves}
use Rattle.nesl_eval_machine.proofs.state.Machine.of_leaf.Goals as goal

pub returns : goal.returns
returns g c = λ fits.
    let t = g.T.Tops.table c.args.tops.now in
    let k = c.args.node in
    let m = c.args.self.now in
    found_moves t m c.of_one_leaf-found.new.meter c.of_one_leaf-found.result c.args.next c.in_hand.result
    (with_leaves t m.levels k.height (env_of m) [] (leaf_is c.args.leaf.now ∷ []) (made_of k.span (of_one k.function)))
    c.in_hand.ensures c.of_one_leaf-found.ensures.meets fits
