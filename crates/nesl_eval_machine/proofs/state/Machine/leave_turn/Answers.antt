use Rattle.std.proofs.Common.{refl, Err, List}
use Rattle.nesl_eval_meaning.specs.Names.{Value}
use Rattle.nesl_eval_meaning.specs.Out.{Out}
use Rattle.nesl_eval_code.specs.Block.{finish}
use Rattle.nesl_eval_code.specs.Exec.{exec}
use Rattle.nesl_eval_ops.specs.View.{block_of}
use Rattle.nesl_eval_nodes.specs.declared.meter.Stop.TheVariants.{Stuck}
use Rattle.nesl_eval_machine.specs.State.{env_of}
use Rattle.nesl_eval_machine.proofs.Stepping.{nothing_popped}
use Rattle.nesl_eval_machine.proofs.Turns.{rests_popped}
use Rattle.nesl_eval_machine.proofs.state.Machine.leave_turn.Goals as goal

pub returns-in-Some : goal.returns-in-Some
returns-in-Some g c = λ t before f is base len levels purpose fits.
    let m = record c.args.self.now { frames = before } in
    rests_popped t m c.give_turn.new.self c.pop.new.self c.in-Some.value c.give_turn.result (block_of f.next.now) c.give_turn.new.round.value
    c.in-Some.ensures.items fits (λ h. c.give_turn.ensures t before f is base len levels purpose h)

pub returns-in-None : goal.returns-in-None
returns-in-None g c = λ t before f is base len levels purpose fits.
    let m = record c.args.self.now { frames = before } in
    let e : List Value → Out Value = exec t m.levels (env_of m) finish in
    nothing_popped {U = Unit {0}} t m (record c.args.self.now { stack = c.pop.new.self }) (block_of m.code.now) (Err Stuck) e c.in-None.ensures.cases.0 refl
