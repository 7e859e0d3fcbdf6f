use Rattle.std.proofs.Common.{◌≡◌, ◌+◌, ◌≤◌}
use Rattle.nesl_values.specs.Tree.{size}
use Rattle.nesl_values.specs.View.{tree_of}
use Rattle.nesl_values.specs.Copying.{all_around, work_above, work_below}
use Rattle.nesl_values.proofs.copy.enter.Given as goal

abbrev pub invariant-loop-n : goal.invariant-loop-n
invariant-loop-n g l =
    (all_around l.above.items (tree_of l.value) ≡ all_around l.fn.above.items (tree_of l.fn.value)) × (work_below (tree_of l.value) + work_above l.above.items ≤ work_below (tree_of l.fn.value) + work_above l.fn.above.items)

abbrev pub decreases-loop-n : goal.decreases-loop-n
decreases-loop-n g l = size (tree_of l.value)
