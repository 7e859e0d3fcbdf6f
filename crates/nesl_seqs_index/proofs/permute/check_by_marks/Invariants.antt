use Rattle.std.proofs.Common.{◌≡◌, length, map, take, drop, replicate, true, false, is_some}
use Rattle.std.specs.List.{list_all}
use Rattle.nesl_seqs_base.specs.Places.{place_of, places_of}
use Rattle.nesl_seqs_index.proofs.Tables.{marked}
use Rattle.nesl_seqs_index.proofs.permute.check_by_marks.Given as goal

abbrev pub invariant-loop-index : goal.invariant-loop-index
invariant-loop-index g l =
    (length l.marks ≡ length l.indices)
    × (list_all (λ i. is_some (place_of (length l.indices) (g.I.Item.tree i))) (take l.index-index l.indices) ≡ true)
    × (marked l.marks (places_of (length l.indices) (map g.I.Item.tree (drop l.index-index l.indices))) ≡ marked (replicate (length l.indices) false) (places_of (length l.indices) (map g.I.Item.tree l.indices)))
