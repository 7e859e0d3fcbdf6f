use Rattle.std.proofs.Common.{true, IsTrue, take}
use Rattle.nesl_eval_columns.specs.Each.{EachTwo}
use Rattle.nesl_eval_columns.proofs.made.turned.Given as goal

abbrev pub invariant-loop-place : goal.invariant-loop-place
invariant-loop-place g l = IsTrue l.all → EachTwo (λ x z. goal.F-post g l.f x (z, true)) (take l.place l.items) (take l.place l.out)
