use Rattle.nesl_seqs.proofs.Forms.{cut_back}
use Rattle.nesl_seqs.proofs.laws.cuts_the_whole.Goals as goal

pub returns : goal.returns
returns c = cut_back
