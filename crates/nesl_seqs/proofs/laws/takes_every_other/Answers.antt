use Rattle.nesl_seqs.proofs.Forms.{every_other}
use Rattle.nesl_seqs.proofs.laws.takes_every_other.Goals as goal

pub returns : goal.returns
returns c = every_other
