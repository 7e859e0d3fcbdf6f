use Rattle.std.proofs.Common.{◌≡◌, map, replicate}
use Rattle.nesl_values.specs.View.{tree_of}
use Rattle.nesl_seqs_build.proofs.ranges.repeated_copies.Given as goal

abbrev pub invariant-loop-place : goal.invariant-loop-place
invariant-loop-place g l = map tree_of l.items.items ≡ replicate l._place (tree_of l.item)
