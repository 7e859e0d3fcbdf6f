use Rattle.std.proofs.Common.{List, Ok, Err}
use Rattle.nesl_eval_meaning.specs.Names.{Value}
use Rattle.nesl_eval_meaning.specs.Out.{Out}
use Rattle.nesl_eval_code.specs.Exec.{exec}
use Rattle.nesl_eval_ops.specs.View.{block_of}
use Rattle.nesl_eval_nodes.specs.declared.meter.Stop.TheVariants.{Stuck}
use Rattle.nesl_eval_machine.specs.declared.state.Hand.TheVariants.{Holds}
use Rattle.nesl_eval_machine.specs.State.{env_of}
use Rattle.nesl_eval_machine.proofs.Hands.{popped_moves, none_moves, held_moves}
use Rattle.nesl_eval_machine.proofs.state.Machine.take_top.Goals as goal

pub returns-in-Some-clause-moves : goal.returns-in-Some-clause-moves
returns-in-Some-clause-moves g c = λ t none fits.
    let m = c.args.self.now in
    let n = record m { stack = c.pop.new.self } in
    let v = c.in-Some.value in
    let f : List Value → Out Value = exec t m.levels (env_of m) (block_of c.args.code.now) in
    popped_moves t m n c.pop.new.self v (Ok (Holds v c.args.code)) f c.in-Some.ensures.items (none m.levels (env_of m)) fits (λ h. held_moves t n v c.args.code h)

pub returns-in-None-clause-moves : goal.returns-in-None-clause-moves
returns-in-None-clause-moves g c = λ t none fits.
    let m = c.args.self.now in
    let f : List Value → Out Value = exec t m.levels (env_of m) (block_of c.args.code.now) in
    none_moves t m (record m { stack = c.pop.new.self }) (Err Stuck) f c.in-None.ensures.cases.0 (none m.levels (env_of m))
