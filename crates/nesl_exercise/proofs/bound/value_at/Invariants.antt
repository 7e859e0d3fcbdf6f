use Rattle.std.proofs.Common.{ℕ, List, [], drop}
use Rattle.std.specs.Prelude.{reverse}
use Rattle.nesl_exercise.specs.Bounds.{Computes}
use Rattle.nesl_exercise.proofs.bound.value_at.Given as goal

abbrev pub invariant-loop-op : goal.invariant-loop-op
invariant-loop-op l =
    (last : List ℕ) → Computes (drop l.op-index l.ops) l.n (reverse l.numbers.items) last → Computes l.fn.ops l.n [] last
