use Rattle.nesl_eval_sound.proofs.Worked.{identity_sound}
use Rattle.nesl_eval_sound.proofs.laws.identity_is_sound.Goals as goal

pub returns : goal.returns
returns c = identity_sound
