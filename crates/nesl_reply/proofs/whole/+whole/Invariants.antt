use Rattle.std.proofs.Common.{◌≡◌, ◌+◌, ◌*◌, ◌++◌, take, map}
use Rattle.nesl_values.specs.Tree.{trees_of}
use Rattle.nesl_values.specs.View.{tree_of}
use Rattle.nesl_reply.specs.Values.{datatypes, later_elements_text}
use Rattle.nesl_reply.proofs.whole.+whole.Given as goal

abbrev pub invariant-write_later_elements-loop-value : goal.invariant-write_later_elements-loop-value
invariant-write_later_elements-loop-value g l = l.out.items ≡ l.initial.out.items ++ later_elements_text (datatypes l.context) l.listed.ty (trees_of (map tree_of (take l.value-index l.listed.items.now)))

abbrev pub decreases-write_whole : goal.decreases-write_whole
decreases-write_whole g l = 5 * l.depth

abbrev pub decreases-write_items : goal.decreases-write_items
decreases-write_items g l = 5 * l.depth + 4

abbrev pub decreases-write_values : goal.decreases-write_values
decreases-write_values g l = 5 * l.depth + 3

abbrev pub decreases-write_elements : goal.decreases-write_elements
decreases-write_elements g l = 5 * l.depth + 2

abbrev pub decreases-write_later_elements : goal.decreases-write_later_elements
decreases-write_later_elements g l = 5 * l.depth + 1
