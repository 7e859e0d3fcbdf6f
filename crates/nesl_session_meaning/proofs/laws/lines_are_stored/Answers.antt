use Rattle.nesl_session_meaning.proofs.Stored.{are_stored}
use Rattle.nesl_session_meaning.proofs.laws.lines_are_stored.Goals as goal

pub returns : goal.returns
returns c = are_stored
