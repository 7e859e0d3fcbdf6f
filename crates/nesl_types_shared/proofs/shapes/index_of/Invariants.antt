use Rattle.std.proofs.Common.{◌≡◌, take}
use Rattle.nesl_types_shared.proofs.shapes.index_of.Given as goal

abbrev pub invariant-loop-place : goal.invariant-loop-place
invariant-loop-place l = l.index.keys ≡ take l.place l.shapes
