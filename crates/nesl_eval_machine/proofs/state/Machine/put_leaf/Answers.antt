use Rattle.nesl_eval_code.specs.Exec.{leaf_out}
use Rattle.nesl_eval_ops.specs.View.{leaf_is}
use Rattle.nesl_eval_machine.specs.State.{env_of}
use Rattle.nesl_eval_machine.proofs.state.Machine.put_leaf.Goals as goal

pub returns : goal.returns
returns g c = λ b fits.
    let m = c.args.self.now in
    let t = g.T.Tops.table c.args.tops.now in
    c.put.ensures.steps t b (leaf_out t m.levels c.args.height (env_of m) (leaf_is c.args.leaf.now)) m.meter c.enter_leaf-found.ensures.meets fits
