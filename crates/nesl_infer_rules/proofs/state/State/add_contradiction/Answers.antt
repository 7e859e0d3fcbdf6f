use Rattle.nesl_infer_rules.proofs.Steps.{adds_never}
use Rattle.nesl_infer_rules.proofs.state.State.add_contradiction.Goals as goal

pub returns : goal.returns
returns c = adds_never c.in_ok-none.none c.in_ok-none.ensures.gives c.in_ok-equate_flat.ensures c.in_ok-equate_flat-2.ensures
