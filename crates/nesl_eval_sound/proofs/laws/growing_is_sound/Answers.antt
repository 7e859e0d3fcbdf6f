use Rattle.nesl_eval_sound.proofs.Worked.{growing_is_sound}
use Rattle.nesl_eval_sound.proofs.laws.growing_is_sound.Goals as goal

pub returns : goal.returns
returns c = growing_is_sound
