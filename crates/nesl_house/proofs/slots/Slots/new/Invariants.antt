use Rattle.std.proofs.Common.{◌≡◌, ◌≤◌, map}
use Rattle.std.specs.List.{range_with_len}
use Rattle.std.specs.Vec.{vec_capacity}
use Rattle.nesl_house.specs.Slots.{opened_at}
use Rattle.nesl_house.proofs.slots.Slots.new.Given as goal

abbrev pub invariant-loop-place : goal.invariant-loop-place
invariant-loop-place l = (l.slots.items ≡ map (opened_at l.limits) (range_with_len 0 l.place)) × (64 ≤ vec_capacity l.slots)
