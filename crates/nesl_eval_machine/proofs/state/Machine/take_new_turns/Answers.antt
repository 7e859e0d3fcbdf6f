use Rattle.std.proofs.Common.{refl}
use Rattle.nesl_eval_rounds.proofs.Columned.{took_none}
use Rattle.nesl_eval_machine.proofs.state.Machine.take_new_turns.Goals as goal

pub returns-then-deref-gt0-clause-took : goal.returns-then-deref-gt0-clause-took
returns-then-deref-gt0-clause-took g c = λ b st. took_none c.args.self.now.meter.fuel _ _ refl
