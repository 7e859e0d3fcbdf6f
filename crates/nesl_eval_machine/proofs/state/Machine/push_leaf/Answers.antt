use Rattle.nesl_eval_code.specs.Exec.{leaf_out}
use Rattle.nesl_eval_ops.specs.View.{leaf_is}
use Rattle.nesl_eval_machine.specs.State.{env_of}
use Rattle.nesl_eval_machine.proofs.Hands.{found_moves}
use Rattle.nesl_eval_machine.proofs.state.Machine.push_leaf.Goals as goal

pub returns : goal.returns
returns g c = λ fits.
    let t = g.T.Tops.table c.args.tops.now in
    let m = c.args.self.now in
    found_moves t m c.enter_leaf-found.new.meter c.enter_leaf-found.result c.args.next c.in_hand.result
    (leaf_out t m.levels c.args.height (env_of m) (leaf_is c.args.leaf.now))
    c.in_hand.ensures c.enter_leaf-found.ensures.meets fits
