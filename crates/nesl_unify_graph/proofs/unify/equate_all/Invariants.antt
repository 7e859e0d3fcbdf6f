use Rattle.std.proofs.Common.{◌+◌, ℕ, length, sum_by, All}
use Rattle.nesl_unify_graph.specs.Tables.{IsTable, IsPairBelow}
use Rattle.nesl_unify_graph.specs.Steps.{Moves, weight}
use Rattle.nesl_unify_graph.proofs.unify.equate_all.Given as goal

abbrev pub invariant-pairs : goal.invariant-pairs
invariant-pairs l = record {
  moves : Moves l.fn.instances l.initial.nodes.items l.initial.pending.items l.nodes.items l.pending.items;
  table : (count : ℕ) → IsTable l.fn.instances count l.initial.nodes.items → IsTable l.fn.instances count l.nodes.items;
  pending : All (IsPairBelow (length l.nodes.items)) l.pending.items;
}

abbrev pub decreases-pairs : goal.decreases-pairs
decreases-pairs l = sum_by (weight l.fn.instances) l.nodes.items + length l.pending.items
