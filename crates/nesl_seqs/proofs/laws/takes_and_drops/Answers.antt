use Rattle.nesl_seqs.proofs.Forms.{taken_and_dropped}
use Rattle.nesl_seqs.proofs.laws.takes_and_drops.Goals as goal

pub returns : goal.returns
returns c = taken_and_dropped
