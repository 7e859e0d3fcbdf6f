use Rattle.std.proofs.Common.{◌≡◌, ◌≤◌, length, take, map}
use Rattle.std.specs.Vec.{vec_capacity}
use Rattle.nesl_seqs_base.specs.Places.{elements_at, places_of}
use Rattle.nesl_seqs_index.proofs.gather.picked.Given as goal

abbrev pub invariant-loop-index : goal.invariant-loop-index
invariant-loop-index g l = record {
  picked : l.made.items ≡ elements_at l.items (places_of (length l.items) (map g.I.Item.tree (take l.index-index l.indices)));
  within : length l.made.items ≤ l.index-index;
  room : length l.indices ≤ vec_capacity l.made;
}
