use Rattle.nesl_eval_sound.proofs.Functions.{sequences_keep}
use Rattle.nesl_eval_sound.proofs.laws.sequences_keep_types.Goals as goal

pub returns : goal.returns
returns c = sequences_keep
