use Rattle.nesl_eval_sound.proofs.Worked.{nested_sound}
use Rattle.nesl_eval_sound.proofs.laws.nested_is_sound.Goals as goal

pub returns : goal.returns
returns c = nested_sound
