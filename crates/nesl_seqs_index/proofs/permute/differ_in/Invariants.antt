use Rattle.std.proofs.Common.{◌≡◌, [], map, take, drop}
use Rattle.nesl_seqs_index.specs.Marks.{are_new, MarksSeen}
use Rattle.nesl_seqs_base.specs.Places.{places_of}
use Rattle.nesl_seqs_index.proofs.permute.differ_in.Given as goal

abbrev pub invariant-loop-index : goal.invariant-loop-index
invariant-loop-index g l =
    MarksSeen l.marks.words l.window (places_of l.len (map g.I.Item.tree (take l.index-index l.indices)))
    × (are_new l.window (places_of l.len (map g.I.Item.tree (take l.index-index l.indices))) (places_of l.len (map g.I.Item.tree (drop l.index-index l.indices))) ≡ are_new l.window [] (places_of l.len (map g.I.Item.tree l.indices)))
