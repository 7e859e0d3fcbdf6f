use Rattle.std.proofs.Common.{◌≡◌}
use Rattle.nesl_values.specs.View.{tree_of}
use Rattle.nesl_values.specs.Copying.{all_around, work_above}
use Rattle.nesl_values.proofs.copy.copy_of_parts.Given as goal

abbrev pub invariant-loop-frame : goal.invariant-loop-frame
invariant-loop-frame g l = all_around l.above.items (tree_of l.copy) ≡ tree_of l.value

abbrev pub decreases-loop-frame : goal.decreases-loop-frame
decreases-loop-frame g l = work_above l.above.items
