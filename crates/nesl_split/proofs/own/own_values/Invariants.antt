use Rattle.std.proofs.Common.{◌≡◌, take, map}
use Rattle.nesl_values.specs.View.{tree_of}
use Rattle.nesl_split.proofs.own.own_values.Given as goal

abbrev pub invariant-loop-value : goal.invariant-loop-value
invariant-loop-value l = map tree_of l.own.items ≡ map tree_of (take l.value-index l.values)
