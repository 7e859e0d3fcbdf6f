use Rattle.std.proofs.Common.{◌≡◌, ◌++◌, take, map}
use Rattle.nesl_values.specs.View.{tree_of}
use Rattle.nesl_split.proofs.turns.share_all.Given as goal

abbrev pub invariant-loop-value : goal.invariant-loop-value
invariant-loop-value l = map tree_of l.values.items ≡ map tree_of l.fn.values.items ++ map tree_of (take l.value-index l.more)
