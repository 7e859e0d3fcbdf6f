use Rattle.std.proofs.Common.{pos, ap, arith}
use Rattle.nesl_values.specs.Tree.{int}
use Rattle.nesl_scalars.specs.Outcomes.{gives}
use Rattle.nesl_scalars.proofs.Roots.{root_is}
use Rattle.nesl_scalars.proofs.laws.worked_calls.Goals as goal

pub returns-clause-root_of_greatest : goal.returns-clause-root_of_greatest
returns-clause-root_of_greatest c = ap (λ r. gives (int (pos r))) (root_is 9223372036854775807 3037000499 (omega arith, omega arith))
