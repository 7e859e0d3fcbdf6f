use Rattle.std.proofs.Common.{ap, sym, Err, ◌-◌, suc, ◌∷◌}
use Rattle.nesl_values.specs.Tree.{tagged}
use Rattle.nesl_values.specs.View.{tree_of}
use Rattle.nesl_eval_meaning.specs.Names.{Value}
use Rattle.nesl_eval_meaning.specs.Out.{Out, and_then}
use Rattle.nesl_eval_meaning.specs.Outcome.{small_enough}
use Rattle.nesl_eval_code.specs.Run.{run, run_called, slot_at, variable_slot, datatype_slot, nothing_slot}
use Rattle.nesl_eval_code.specs.Exec.{exec}
use Rattle.nesl_eval_ops.specs.View.{block_of}
use Rattle.nesl_eval_nodes.specs.declared.meter.Stop.TheVariants.{Stuck}
use Rattle.nesl_eval_nodes.proofs.Making.{held_called}
use Rattle.nesl_eval_machine.specs.State.{env_of, local_of, left_with}
use Rattle.nesl_eval_machine.proofs.Hands.{moves_from, stuck_moves, found_moves}
use Rattle.nesl_eval_machine.proofs.Calling.{function_there}
use Rattle.nesl_eval_machine.proofs.state.Machine.call_at.Goals as goal

pub returns-in-Ok-Function : goal.returns-in-Ok-Function
returns-in-Ok-Function g c = λ fits.
    let t = g.T.Tops.table c.args.tops.now in
    let m = c.args.self.now in
    let n = c.after_step.new.self in
    let f = run (m.levels - suc c.args.node.height) t in
    let k : Value → Out Value = λ v. exec t m.levels (env_of m) (block_of c.args.next.now) (v ∷ local_of m) in
    let code = c.in-Ok-Function.field-0-0.now in
    let there = function_there (slot_at t c.args.place) code (rw c.in-Ok-Function.field-0-is at c.in-Ok-Function.ensures) in
    moves_from t m n c.after_step.result _ _
    (ap (λ q. left_with t m (and_then (run_called f c.args.node.span q (tree_of c.args.argument)) k)) there)
    (c.after_step.ensures m _ (c.enter_body-done.ensures.steps t code there fits))

pub returns-in-Ok-Datatype : goal.returns-in-Ok-Datatype
returns-in-Ok-Datatype g c = λ fits.
    let t = g.T.Tops.table c.args.tops.now in
    let m = c.args.self.now in
    let f = run (m.levels - suc c.args.node.height) t in
    let x = tree_of c.args.argument in
    let k : Value → Out Value = λ v. exec t m.levels (env_of m) (block_of c.args.next.now) (v ∷ local_of m) in
    moves_from t m m c.in_hand.result _ _
    (ap (λ o. left_with t m (and_then o k)) (sym (held_called f c.args.node.span (slot_at t c.args.place) x (datatype_slot c.in-Ok-Datatype.tag) (rw c.in-Ok-Datatype.field-0-is at c.in-Ok-Datatype.ensures))))
    (found_moves t m m.meter c.record_of.result c.args.next c.in_hand.result (small_enough c.args.node.span (tagged c.in-Ok-Datatype.tag x)) c.in_hand.ensures (c.record_of.ensures m.meter) fits)

pub returns-in-Ok-Variable : goal.returns-in-Ok-Variable
returns-in-Ok-Variable g c = λ fits.
    let t = g.T.Tops.table c.args.tops.now in
    let m = c.args.self.now in
    let f = run (m.levels - suc c.args.node.height) t in
    let x = tree_of c.args.argument in
    let k : Value → Out Value = λ v. exec t m.levels (env_of m) (block_of c.args.next.now) (v ∷ local_of m) in
    stuck_moves t m m (Err Stuck) _
    (ap (λ o. and_then o k) (sym (held_called f c.args.node.span (slot_at t c.args.place) x (variable_slot (tree_of c.in-Ok-Variable.field-0-0.now)) (rw c.in-Ok-Variable.field-0-is at c.in-Ok-Variable.ensures))))

pub returns-in-Ok-Nothing : goal.returns-in-Ok-Nothing
returns-in-Ok-Nothing g c = λ fits.
    let t = g.T.Tops.table c.args.tops.now in
    let m = c.args.self.now in
    let f = run (m.levels - suc c.args.node.height) t in
    let x = tree_of c.args.argument in
    let k : Value → Out Value = λ v. exec t m.levels (env_of m) (block_of c.args.next.now) (v ∷ local_of m) in
    stuck_moves t m m (Err Stuck) _
    (ap (λ o. and_then o k) (sym (held_called f c.args.node.span (slot_at t c.args.place) x nothing_slot (rw c.in-Ok-Nothing.field-0-is at c.in-Ok-Nothing.ensures))))
