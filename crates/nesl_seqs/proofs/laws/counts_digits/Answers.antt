use Rattle.nesl_seqs.proofs.Counting.{number_of_digits}
use Rattle.nesl_seqs.proofs.laws.counts_digits.Goals as goal

pub returns : goal.returns
returns c = number_of_digits
