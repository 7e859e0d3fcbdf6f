use Rattle.std.proofs.Common.{◌+◌, ◌*◌, ◌≤◌}
use Rattle.std.specs.Arc.{arc_value}
use Rattle.nesl_values.specs.Tree.{size}
use Rattle.nesl_values.specs.Weight.{weight}
use Rattle.nesl_values.specs.View.{tree_of}
use Rattle.nesl_values.specs.Dropping.{heft}
use Rattle.nesl_values.proofs.value.+drops.Given as goal

abbrev pub decreases-Value::taken_down : goal.decreases-Value::taken_down
decreases-Value::taken_down g l = 8 * weight (tree_of l.self) + 3

abbrev pub decreases-Value::next_taken_apart : goal.decreases-Value::next_taken_apart
decreases-Value::next_taken_apart g l = 8 * weight (tree_of l.self) + 2

abbrev pub decreases-Value::taken_apart : goal.decreases-Value::taken_apart
decreases-Value::taken_apart g l = 8 * weight (tree_of l.self) + 1

abbrev pub decreases-let_go : goal.decreases-let_go
decreases-let_go g l = 8 * weight (arc_value l.shared)

abbrev pub decreases-all_let_go : goal.decreases-all_let_go
decreases-all_let_go g l = 8 * heft l.items.items + 5

abbrev pub invariant-Value::taken_down-loop-rest : goal.invariant-Value::taken_down-loop-rest
invariant-Value::taken_down-loop-rest g l = weight (tree_of l.self) ≤ weight (tree_of l.initial.self)

abbrev pub decreases-Value::taken_down-loop-rest : goal.decreases-Value::taken_down-loop-rest
decreases-Value::taken_down-loop-rest g l = weight (tree_of l.self)

abbrev pub invariant-Value::taken_apart-loop-self : goal.invariant-Value::taken_apart-loop-self
invariant-Value::taken_apart-loop-self g l =
    (weight (tree_of l.self) + weight (tree_of l.above) ≤ weight (tree_of l.fn.self) + weight (tree_of l.fn.above)) × (weight (tree_of l.self) ≤ weight (tree_of l.fn.self)) × (size (tree_of l.self) + size (tree_of l.above) ≤ size (tree_of l.fn.self) + size (tree_of l.fn.above))

abbrev pub decreases-Value::taken_apart-loop-self : goal.decreases-Value::taken_apart-loop-self
decreases-Value::taken_apart-loop-self g l = weight (tree_of l.self)

abbrev pub decreases-last_let_go : goal.decreases-last_let_go
decreases-last_let_go g l = 8 * heft l.items.now.items + 4

abbrev pub invariant-all_let_go-loop : goal.invariant-all_let_go-loop
invariant-all_let_go-loop g l = heft l.items.items ≤ heft l.fn.items.items

abbrev pub decreases-all_let_go-loop : goal.decreases-all_let_go-loop
decreases-all_let_go-loop g l = heft l.items.items
