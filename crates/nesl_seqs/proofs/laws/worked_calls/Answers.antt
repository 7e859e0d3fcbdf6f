use Rattle.std.proofs.Common.{refl}
use Rattle.nesl_seqs_base.specs.Prices.{digits}
use Rattle.nesl_seqs.proofs.laws.worked_calls.Goals as goal

pub returns-clause-sums : goal.returns-clause-sums
unfolding digits
returns-clause-sums c = ((refl, refl), (refl, refl), refl)

pub returns-clause-greatest : goal.returns-clause-greatest
unfolding digits
returns-clause-greatest c = ((refl, refl), refl)
