use Rattle.std.proofs.Common.{ap, is_some}
use Rattle.nesl_eval_rounds.proofs.state.Round.gather.Goals as goal

pub returns-in-Some-clause-gave : goal.returns-in-Some-clause-gave
returns-in-Some-clause-gave g c = λ t n b env st. c.gather_place.ensures t n b env st (ap is_some c.in-Some.is)

pub returns-in-None-clause-gave : goal.returns-in-None-clause-gave
returns-in-None-clause-gave g c = λ t n b env st. c.gather_value.ensures.gave t n b env st c.in-None.is
