use Rattle.std.proofs.Common.{refl}
use Rattle.nesl_eval_rounds.proofs.Columned.{took_none}
use Rattle.nesl_eval_machine.proofs.state.Machine.take_new_body.Goals as goal

pub returns-in-Some-clause-took : goal.returns-in-Some-clause-took
returns-in-Some-clause-took g c = λ b st. took_none c.args.self.now.meter.fuel _ _ refl
