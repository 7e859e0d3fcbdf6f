use Rattle.std.proofs.Common.{◌≡◌, ◌<◌, ℕ, length}
use Rattle.nesl_types_shared.specs.Term.{Term}
use Rattle.nesl_unify_graph.specs.declared.instances.Instances.{Instances}
use Rattle.nesl_unify_graph.specs.Graph.{Fits}
use Rattle.nesl_unify_graph.specs.Steps.{LeadDown}
use Rattle.nesl_unify_graph.proofs.Tables.{Relinks}
use Rattle.nesl_unify_graph.proofs.table.find.Given as goal

abbrev pub invariant-links : goal.invariant-links
invariant-links l = record {
  relinks : Relinks l.initial.nodes l.nodes;
  down : LeadDown l.nodes;
  equal : (i : Instances) → (w : ℕ → Term) → Fits i w l.nodes → w l.place ≡ w l.root;
  within : l.root < length l.nodes;
}

abbrev pub decreases-links : goal.decreases-links
decreases-links l = l.root
