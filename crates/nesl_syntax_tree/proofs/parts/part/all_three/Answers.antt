use Rattle.std.proofs.Common.{arith}
use Rattle.nesl_syntax_tree.proofs.parts.part.all_three.Goals as goal

pub returns-in_default-clause-seen : goal.returns-in_default-clause-seen
returns-in_default-clause-seen c = λ x y z s t u. let k = c.in_default.ensures.seen x y s t in rw c.none.ensures (omega arith)

pub returns-clause-seen : goal.returns-clause-seen
returns-clause-seen c = λ x y z s t u. let k = c.in-Some.ensures.seen x y s t in let l = c.in-Some-low_enough.ensures.seen z u in grind arith
