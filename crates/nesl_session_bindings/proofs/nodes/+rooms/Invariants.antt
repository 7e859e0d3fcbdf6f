use Rattle.std.proofs.Common.{◌≡◌, ◌+◌, drop}
use Rattle.nesl_syntax_tree.specs.Views.{trees_in, binders_in}
use Rattle.nesl_session_bindings.specs.Nodes.{nodes_of_all, nodes_bound}
use Rattle.nesl_session_bindings.proofs.nodes.+rooms.Given as goal

abbrev pub invariant-room_left_by_all-loop-item : goal.invariant-room_left_by_all-loop-item
invariant-room_left_by_all-loop-item l = l.left + nodes_of_all (trees_in l.items) ≡ l.room + nodes_of_all (trees_in (drop l.item-index l.items))

abbrev pub invariant-room_left_bound-loop-binding : goal.invariant-room_left_bound-loop-binding
invariant-room_left_bound-loop-binding l = l.left + nodes_bound (binders_in l.bindings) ≡ l.room + nodes_bound (binders_in (drop l.binding-index l.bindings))
