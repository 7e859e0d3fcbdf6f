-- Systems that were solved.
use Rattle.std.proofs.Common.{ℕ, ◌<◌, ◌≤◌, List, length, ◌∙◌, arith}
use Rattle.nesl_types_shared.specs.Term.{Term, nodes}
use Rattle.nesl_unify_graph.specs.declared.node.Node.{Node}
use Rattle.nesl_unify_graph.specs.declared.instances.Instances.{Instances}
use Rattle.nesl_unify_graph.specs.declared.unify.Pair.{Pair}
use Rattle.nesl_unify_graph.specs.Graph.{Fits, IsFlat}
use Rattle.nesl_unify_graph.specs.Instances.{AreBelow}
use Rattle.nesl_unify_graph.specs.Readings.{AreReadWithin}
use Rattle.nesl_unify_graph.specs.Tables.{IsTable, AreEqual, Joins}
use Rattle.nesl_unify_graph.proofs.Steps.{below_more}
use Rattle.nesl_unify.specs.declared.fact.Fact.{Fact}
use Rattle.nesl_unify.specs.Bounds.{IsBounded}
use Rattle.nesl_unify.specs.Facts.{AreFacts, AreTrue}
use Rattle.nesl_unify.specs.Solved.{IsSolved, IsMet}
use Rattle.nesl_unify.specs.Starts.{IsStart}
use Rattle.nesl_unify.proofs.Starts.{start_sound, start_complete}

module _ (i : Instances) (count : ℕ) (facts : List Fact) (first : List Node) (pairs : List Pair) (made : AreFacts i count facts) (x : IsStart count (length facts) facts first pairs) where
  pub start_long : count ≤ length first
  start_long = omega (arith, x.long)

  -- no types fit the table
  pub none_joined : ((w : ℕ → Term) → Fits i w first → AreEqual w pairs → ⊥) → (s : ℕ → Term) → AreTrue i facts s → ⊥
  none_joined never s t = let c = start_complete i count facts first pairs made x s t in never c.types c.fits c.equal

  module _ (new : List Node) (j : Joins i first pairs new) where
    pub joined_long : count ≤ length new
    joined_long = omega (arith, x.long, j.longer)

    pub joined_below : AreBelow (length new) i
    joined_below = below_more i count (length new) joined_long made.below

    pub joined_holds : (w : ℕ → Term) → Fits i w new → AreTrue i facts w
    joined_holds w f = let a = j.sound w f in start_sound i count facts first pairs made x w a.0 a.1

    pub joined_general : (s : ℕ → Term) → AreTrue i facts s → IsMet i count new s
    joined_general s t =
        let c = start_complete i count facts first pairs made x s t in
        let d = j.complete c.types c.fits c.equal in
        (d.0, (d.1.1, λ v l. d.1.0.agrees v (omega (arith, start_long)) ∙ c.agrees v l))

    pub joined_none : ((w : ℕ → Term) → Fits i w new → (p : ℕ) × ((p < length new) × (4096 < nodes (w p)))) → (s : ℕ → Term) → IsBounded s → AreTrue i facts s → ⊥
    joined_none large s b t =
        let c = start_complete i count facts first pairs made x s t in
        let d = j.complete c.types c.fits c.equal in
        let l = large d.0 d.1.1 in
        let small : nodes (d.0 l.0) ≤ 4096 = d.1.0.bounded 4096 (c.bounded 4096 b) l.0 in
        omega (arith, l.1.1)

    pub joined_solved : IsTable i count new → IsFlat new → AreReadWithin i new 4096 → IsSolved i count new
    joined_solved t f r = record { below = joined_below; table = t; flat = f; read = r; within = joined_long }
