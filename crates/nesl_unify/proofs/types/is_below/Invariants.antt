use Rattle.std.proofs.Common.{ℕ, ◌<◌}
use Rattle.nesl_types_shared.specs.Numbering.{IsBelow}
use Rattle.nesl_types_shared.specs.Types.{type_at}
use Rattle.nesl_unify.proofs.types.is_below.Given as goal

abbrev pub invariant-loop-place : goal.invariant-loop-place
invariant-loop-place l = (p : ℕ) → p < l.place → IsBelow l.count (type_at l.parts p)
