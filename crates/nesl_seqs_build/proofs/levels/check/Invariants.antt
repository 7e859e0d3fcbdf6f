use Rattle.std.proofs.Common.{◌≡◌, option_map, drop, map}
use Rattle.nesl_values.specs.Parts.{as_int}
use Rattle.nesl_seqs_base.specs.Reductions.{all_of}
use Rattle.nesl_seqs_base.specs.Levels.{are_lengths}
use Rattle.nesl_seqs_build.proofs.levels.check.Given as goal

abbrev pub invariant-loop-count : goal.invariant-loop-count
invariant-loop-count g l =
    option_map (are_lengths l.left) (all_of as_int (map g.T.Item.tree (drop l.count-index l.counts))) ≡ option_map (are_lengths l.len) (all_of as_int (map g.T.Item.tree l.counts))
