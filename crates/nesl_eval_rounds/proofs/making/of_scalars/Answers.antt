use Rattle.std.proofs.Common.{refl, arith}
use Rattle.nesl_eval_rounds.proofs.making.of_scalars.Goals as goal

pub returns-in-Some : goal.returns-in-Some
returns-in-Some g c = λ m. rw c.in-Some.ensures (refl, omega arith, omega arith)
