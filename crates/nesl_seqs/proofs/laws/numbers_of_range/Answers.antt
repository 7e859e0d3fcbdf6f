use Rattle.nesl_seqs.proofs.Moves.{numbers_of_range}
use Rattle.nesl_seqs.proofs.laws.numbers_of_range.Goals as goal

pub returns : goal.returns
returns c = numbers_of_range
