use Rattle.nesl_eval_sound.proofs.Nodes.{types_kept}
use Rattle.nesl_eval_sound.proofs.laws.evaluation_keeps_types.Goals as goal

pub returns : goal.returns
returns g c = λ context. types_kept context
