use Rattle.std.proofs.Common.{◌<◌, ℕ}
use Rattle.nesl_unify_graph.specs.Graph.{IsRoot, node_at, target}
use Rattle.nesl_unify_graph.specs.Steps.{LeadDown}
use Rattle.nesl_unify_graph.proofs.Tables.{Relinks}
use Rattle.nesl_unify_graph.proofs.table.flatten.Given as goal

abbrev pub invariant-loop-place : goal.invariant-loop-place
invariant-loop-place l = record {
  relinks : Relinks l.initial.nodes l.nodes;
  down : LeadDown l.nodes;
  flat : (p : ℕ) → p < l.place → IsRoot (node_at l.nodes (target l.nodes p));
}
