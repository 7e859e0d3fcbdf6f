use Rattle.std.proofs.Common.{◌≡◌, ℕ, ◌<◌, [], map, true}
use Rattle.nesl_seqs_index.specs.Marks.{are_new}
use Rattle.nesl_seqs_base.specs.Places.{places_of}
use Rattle.nesl_seqs_index.proofs.permute.all_differ.Given as goal

abbrev pub invariant-loop-window : goal.invariant-loop-window
invariant-loop-window g l =
    (w : ℕ) → w < l.window → are_new w [] (places_of l.len (map g.I.Item.tree l.indices)) ≡ true
