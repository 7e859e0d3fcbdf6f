use Rattle.nesl_session.specs.Found.{finding_of}
use Rattle.nesl_session.proofs.Lines.{step_from}
use Rattle.nesl_session.proofs.line.step.Goals as goal

pub returns-clause-step : goal.returns-clause-step
returns-clause-step g c = step_from _ _ _ _ _ (finding_of c.in_ok-finding.finding) c.in_ok-finding.ensures.found c.in-Ok.ensures c.in_ok-settle.ensures.ok
