use Rattle.nesl_seqs.proofs.Forms.{told_equal}
use Rattle.nesl_seqs.proofs.laws.tells_equality.Goals as goal

pub returns : goal.returns
returns c = told_equal
