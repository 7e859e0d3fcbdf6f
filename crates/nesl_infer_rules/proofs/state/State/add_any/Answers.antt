use Rattle.nesl_infer_rules.proofs.Steps.{gives_anything}
use Rattle.nesl_infer_rules.proofs.state.State.add_any.Goals as goal

pub returns-clause-gives : goal.returns-clause-gives
returns-clause-gives c = gives_anything c.in_ok-fresh.field-0 c.in_ok-fresh.ensures.gives
