use Rattle.std.proofs.Common.{ap, sym, Err, ◌-◌, suc, ◌∷◌}
use Rattle.nesl_values.specs.View.{tree_of}
use Rattle.nesl_eval_meaning.specs.Names.{Value}
use Rattle.nesl_eval_meaning.specs.Out.{Out, and_then}
use Rattle.nesl_eval_code.specs.Run.{run, run_called}
use Rattle.nesl_eval_code.specs.Exec.{exec}
use Rattle.nesl_eval_ops.specs.View.{block_of}
use Rattle.nesl_eval_nodes.specs.declared.meter.Stop.TheVariants.{Stuck}
use Rattle.nesl_eval_machine.specs.State.{env_of, local_of, left_with}
use Rattle.nesl_eval_machine.proofs.Hands.{moves_from, stuck_moves}
use Rattle.nesl_eval_machine.proofs.state.Machine.call_with.Goals as goal

pub returns-in-Some : goal.returns-in-Some
returns-in-Some g c = λ fits.
    let t = g.T.Tops.table c.args.tops.now in
    let m = c.args.self.now in
    let n = c.call_at.new.self in
    let k : Value → Out Value = λ v. exec t m.levels (env_of m) (block_of c.args.next.now) (v ∷ local_of m) in
    moves_from t m n c.call_at.result _ _
    (ap (λ q. left_with t m (and_then (run_called (run (m.levels - suc c.args.node.height) t) c.args.node.span q (tree_of c.args.argument)) k)) (sym c.in-Some.ensures))
    (c.call_at.ensures fits)

pub returns-in-None : goal.returns-in-None
returns-in-None g c = λ fits.
    let t = g.T.Tops.table c.args.tops.now in
    let m = c.args.self.now in
    let k : Value → Out Value = λ v. exec t m.levels (env_of m) (block_of c.args.next.now) (v ∷ local_of m) in
    stuck_moves t m m (Err Stuck) _
    (ap (λ q. and_then (run_called (run (m.levels - suc c.args.node.height) t) c.args.node.span q (tree_of c.args.argument)) k) (sym c.in-None.ensures))
