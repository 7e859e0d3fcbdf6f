use Rattle.std.proofs.Common.{◌≡◌, ◌++◌, drop, map}
use Rattle.nesl_values.specs.View.{tree_of}
use Rattle.nesl_seqs_base.specs.Sides.{marked}
use Rattle.nesl_seqs_build.proofs.sides.values_beside.Given as goal

abbrev pub invariant-loop-place : goal.invariant-loop-place
invariant-loop-place g l =
    map tree_of l.kept.items ++ marked l.wanted (drop l.place (map tree_of l.values)) (drop l.place l.flags) ≡ marked l.wanted (map tree_of l.values) l.flags
