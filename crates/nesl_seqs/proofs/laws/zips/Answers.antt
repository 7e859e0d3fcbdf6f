use Rattle.nesl_seqs.proofs.Forms.{zipped_back}
use Rattle.nesl_seqs.proofs.laws.zips.Goals as goal

pub returns : goal.returns
returns c = zipped_back
