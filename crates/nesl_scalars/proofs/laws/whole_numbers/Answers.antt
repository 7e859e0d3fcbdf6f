use Rattle.nesl_scalars.proofs.Quotients.{quotient_rounded}
use Rattle.nesl_scalars.proofs.Roots.{root_bounds}
use Rattle.nesl_scalars.proofs.laws.whole_numbers.Goals as goal

pub returns-clause-rounded_down : goal.returns-clause-rounded_down
returns-clause-rounded_down c = quotient_rounded

pub returns-clause-greatest_root : goal.returns-clause-greatest_root
returns-clause-greatest_root c = root_bounds
