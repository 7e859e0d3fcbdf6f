use Rattle.std.proofs.Common.{ap}
use Rattle.std.specs.Prelude.{is_some}
use Rattle.nesl_eval_rounds.proofs.columns.take_in_columns.Goals as goal

pub returns-in-Some-body-clause-took : goal.returns-in-Some-body-clause-took
returns-in-Some-body-clause-took g c = λ b st. c.take_filter_turns.ensures.took b st (ap is_some c.in-Some-body.is) c.in-Some.ensures

pub returns-in-None-body-clause-took : goal.returns-in-None-body-clause-took
returns-in-None-body-clause-took g c = λ b st. c.take_body_turns.ensures.took b st c.in-None-body.is c.in-Some.ensures
