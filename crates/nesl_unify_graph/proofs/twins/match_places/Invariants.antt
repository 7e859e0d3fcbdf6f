use Rattle.nesl_types_shared.specs.Term.{Term}
use Rattle.nesl_unify_graph.specs.Steps.{HaveWhole}
use Rattle.nesl_unify_graph.proofs.Matches.{AreMatched}
use Rattle.nesl_unify_graph.proofs.twins.match_places.Given as goal

abbrev pub invariant-loop-place : goal.invariant-loop-place
invariant-loop-place l = (t : Term) → HaveWhole l.instances l.twins t → AreMatched l.instances l.twins l.parts t l.initial.pending.items l.pending.items l.place
