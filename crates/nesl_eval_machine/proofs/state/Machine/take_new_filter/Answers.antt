use Rattle.std.proofs.Common.{refl}
use Rattle.nesl_eval_rounds.proofs.Columned.{took_none}
use Rattle.nesl_eval_machine.proofs.state.Machine.take_new_filter.Goals as goal

pub returns-in-None-clause-took : goal.returns-in-None-clause-took
returns-in-None-clause-took g c = λ b st. took_none c.args.self.now.meter.fuel _ _ refl
