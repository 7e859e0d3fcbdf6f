use Rattle.nesl_seqs.proofs.Forms.{woven_back}
use Rattle.nesl_seqs.proofs.laws.weaves.Goals as goal

pub returns : goal.returns
returns c = woven_back
