use Rattle.nesl_line.proofs.Visits.{served_and_kept}
use Rattle.nesl_line.proofs.serve.serve_and_keep.Goals as goal

pub returns-clause-served : goal.returns-clause-served
returns-clause-served g c = served_and_kept _ _ _ _ _ _ _ _ _ c.attend.ensures.attends
