use Rattle.std.proofs.Common.{◌≡◌, ◌<◌, ℕ, length}
use Rattle.nesl_types_shared.specs.Shapes.{shape_at}
use Rattle.nesl_types_shared.proofs.shapes.place_in.Given as goal

abbrev pub invariant-loop-place : goal.invariant-loop-place
invariant-loop-place l = (p : ℕ) → p < l.place → p < length l.shapes → shape_at l.shapes p ≡ l.shape → ⊥
