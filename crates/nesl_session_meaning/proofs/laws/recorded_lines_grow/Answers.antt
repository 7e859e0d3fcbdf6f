use Rattle.nesl_session_meaning.proofs.Grows.{grows, limits_stay}
use Rattle.nesl_session_meaning.proofs.laws.recorded_lines_grow.Goals as goal

pub returns-clause-grow : goal.returns-clause-grow
returns-clause-grow c = grows

pub returns-clause-limits : goal.returns-clause-limits
returns-clause-limits c = limits_stay
