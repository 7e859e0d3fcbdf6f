use Rattle.std.proofs.Common.{◌≡◌, ◌+◌, ◌≤◌, ◌++◌, length, map}
use Rattle.std.specs.Vec.{vec_capacity}
use Rattle.std.specs.Vec.Iter.{into_iter_items}
use Rattle.nesl_house.specs.Slots.{at_home, AreHome}
use Rattle.nesl_house.specs.Runs.{AllReplay}
use Rattle.nesl_house.specs.Table.{seated, AreReplays}
use Rattle.nesl_house.proofs.table.seated.Given as goal

abbrev pub invariant-loop-slot : goal.invariant-loop-slot
invariant-loop-slot l = record {
  can : (goal.iterator-loop-slot).can_next l.slot-iterator;
  finite : (goal.iterator-loop-slot).is_finite l.slot-iterator;
  home : AreHome (into_iter_items l.slot-iterator);
  accounts : l.users.items ++ seated (map (λ v. v.items) (into_iter_items l.names)) (at_home (into_iter_items l.slot-iterator)) ≡ seated (map (λ v. v.items) l.fn.roster.items) (at_home l.fn.slots.items);
  replayed : AllReplay l.users.items;
  held : AreReplays (at_home (into_iter_items l.slot-iterator)) → AreReplays (at_home l.fn.slots.items);
  room : length l.users.items + length (into_iter_items l.names) ≤ 64;
  capacity : 64 ≤ vec_capacity l.users;
}
