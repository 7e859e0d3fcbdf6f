use Rattle.std.proofs.Common.{◌≡◌, length, take, map}
use Rattle.nesl_values.specs.View.{tree_of}
use Rattle.nesl_seqs_base.specs.Places.{elements_at, places_of}
use Rattle.nesl_seqs_index.proofs.gather.picked_values.Given as goal

abbrev pub invariant-loop-index : goal.invariant-loop-index
invariant-loop-index g l =
    map tree_of l.made.items ≡ map tree_of (elements_at l.values (places_of (length l.values) (map g.I.Item.tree (take l.index-index l.indices))))
