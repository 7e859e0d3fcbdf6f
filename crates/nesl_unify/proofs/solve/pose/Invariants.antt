use Rattle.std.proofs.Common.{ℕ}
use Rattle.std.specs.Prelude.{◌↔◌}
use Rattle.nesl_types_shared.specs.Term.{Term}
use Rattle.nesl_unify.specs.Facts.{AreFacts, AreTrue}
use Rattle.nesl_unify.specs.Equations.{HasOwnPlaces}
use Rattle.nesl_unify.proofs.Equations.{SolvesFirst}
use Rattle.nesl_unify.proofs.solve.pose.Given as goal

abbrev pub invariant-loop-equation : goal.invariant-loop-equation
invariant-loop-equation l = record {
  places : HasOwnPlaces l.count l.instances;
  facts : AreFacts l.instances l.count l.facts.items;
  same : (s : ℕ → Term) → AreTrue l.instances l.facts.items s ↔ SolvesFirst s l.equation-index l.equations;
}
