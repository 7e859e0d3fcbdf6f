use Rattle.nesl_eval_sound.proofs.Worked.{point_sound}
use Rattle.nesl_eval_sound.proofs.laws.point_is_sound.Goals as goal

pub returns : goal.returns
returns c = point_sound
