use Rattle.std.proofs.Common.{◌≡◌, ℕ, vec_len, ◌+◌, ◌-◌}
use Rattle.nesl_types.specs.Class.{class_at}
use Rattle.nesl_unify.proofs.narrow.make_class_room.Given as goal

abbrev pub invariant-loop-classes : goal.invariant-loop-classes
invariant-loop-classes l = (v : ℕ) → class_at l.classes.items v ≡ class_at l.initial.classes.items v

abbrev pub decreases-loop-classes : goal.decreases-loop-classes
decreases-loop-classes l = l.variable + 1 - vec_len l.classes
