use Rattle.nesl_line.proofs.Visits.{served}
use Rattle.nesl_line.proofs.serve.serve.Goals as goal

pub returns-clause-served : goal.returns-clause-served
returns-clause-served g c = served _ _ _ _ _ _ _ (λ k failed. failed) _ _ c.attend.ensures.attends
