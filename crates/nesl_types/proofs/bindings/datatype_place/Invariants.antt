use Rattle.std.proofs.Common.{◌≡◌, ℕ, ◌<◌, false, map}
use Rattle.nesl_types.specs.Names.{is_datatype_at}
use Rattle.nesl_types.proofs.bindings.datatype_place.Given as goal

abbrev pub invariant-loop-place : goal.invariant-loop-place
invariant-loop-place g l = (k : ℕ) → k < l.place → is_datatype_at (map (λ e. e.top) l.entries) k l.tag ≡ false
