use Rattle.std.proofs.Common.{true, IsTrue, take}
use Rattle.nesl_eval_columns.specs.Each.{EachThree}
use Rattle.nesl_eval_columns.proofs.made.filled.Given as goal

abbrev pub invariant-loop-place : goal.invariant-loop-place
invariant-loop-place g l = IsTrue l.all → EachThree (λ x y z. goal.F-post g l.f x y (z, true)) (take l.place l.left) (take l.place l.right) (take l.place l.out)
