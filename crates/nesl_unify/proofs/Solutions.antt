-- Solutions of systems.
use Rattle.std.proofs.Common.{◌≡◌, ℕ, ◌*◌, ◌<◌, ◌≤◌, inl, inr, List, All, length, get_or, sym, ap, ◌∙◌, subst, arith}
use Rattle.std.specs.Prelude.{nat_lt, if◌then◌else◌}
use Rattle.std.proofs.lemmas.Bool.{cases_lt, lt-ltb, le-ltb}
use Rattle.nesl_types.specs.declared.classes.Class.{Class}
use Rattle.nesl_types.specs.Class.{IsIn}
use Rattle.nesl_types_shared.specs.Term.{Term, int, variable, nodes}
use Rattle.nesl_types_shared.specs.Substitution.{substitute}
use Rattle.nesl_unify_graph.specs.declared.node.Node.{Node}
use Rattle.nesl_unify_graph.specs.declared.instances.Instances.{Instances}
use Rattle.nesl_unify_graph.specs.Graph.{Fits}
use Rattle.nesl_unify_graph.specs.Readings.{Reads, AreReadWithin}
use Rattle.nesl_unify.specs.declared.fact.Fact.{Fact}
use Rattle.nesl_unify.specs.declared.narrow.Member.{Member}
use Rattle.nesl_unify.specs.Members.{IsInAll}
use Rattle.nesl_unify.specs.Facts.{AreFacts, AreTrue}
use Rattle.nesl_unify.specs.Solved.{IsSolved}
use Rattle.nesl_unify.specs.Solves.{type_in, IsReading}
use Rattle.nesl_unify.proofs.Facts.{true_same}
use Rattle.nesl_unify.proofs.Unrolled.{read_fits, read_free, read_general_below}

-- what is read of a type that is small enough
pub read_is : (i : Instances) (ns : List Node) (p : ℕ) (t : Term) → AreReadWithin i ns 4096 → p < length ns → ((u : Term) → Reads i ns p u → nodes u ≤ 4096 → t ≡ u) → t ≡ type_in i ns p
read_is i ns p t a l h =
    let r = a p l in
    let far : 2 * nodes r.0 ≤ 8192 = omega (arith, r.1.1) in
    h r.0 r.1.0 r.1.1 ∙ sym (r.1.0 (λ q. int) 8192 far)

-- what variable v means in a graph with places for the first `count`
abbrev pub type_of_variable : Instances → ℕ → List Node → ℕ → Term
type_of_variable i count ns v = if nat_lt v count then type_in i ns v else variable v

pub type_below : (i : Instances) (count : ℕ) (ns : List Node) (v : ℕ) → v < count → type_of_variable i count ns v ≡ type_in i ns v
type_below i count ns v l = rw (lt-ltb v count l)

pub type_past : (i : Instances) (count : ℕ) (ns : List Node) (v : ℕ) → count ≤ v → type_of_variable i count ns v ≡ variable v
type_past i count ns v l = rw (le-ltb v count l)

module _ (i : Instances) (count : ℕ) (ns : List Node) (k : IsSolved i count ns) where
  pub solved_reading : IsReading i ns (type_in i ns)
  solved_reading = record { fits = read_fits i ns 4096 8192 k.read (omega arith) (omega arith); free = read_free i ns 4096 8192 k.read (omega arith) (omega arith) }

  -- what is read makes the facts true
  pub solved_true : (facts : List Fact) → AreFacts i count facts → ((w : ℕ → Term) → Fits i w ns → AreTrue i facts w) → AreTrue i facts (type_of_variable i count ns)
  solved_true facts made h = true_same i count facts (type_in i ns) (type_of_variable i count ns) made (λ v l. sym (type_below i count ns v l)) (h (type_in i ns) solved_reading.fits)

  -- and is as general as all types that do
  pub solved_general : (s z : ℕ → Term) → Fits i z ns → ((v : ℕ) → v < count → z v ≡ s v) → (v : ℕ) → s v ≡ substitute s (type_of_variable i count ns v)
  solved_general s z f e v = elim (cases_lt v count) [
    | inl l ↦
        let inside : v < length ns = omega (arith, k.within) in
        sym (e v l) ∙ read_general_below i ns 4096 8192 k.read (omega arith) (omega arith) count z s k.below k.table f e v inside ∙ ap (substitute s) (sym (type_below i count ns v l))
    | inr g ↦ ap (substitute s) (sym (type_past i count ns v g))
  ]

  pub solved_bounded : (v : ℕ) → nodes (type_of_variable i count ns v) ≤ 4096
  solved_bounded v = elim (cases_lt v count) [
    | inl l ↦
        let r = k.read v (omega (arith, k.within)) in
        let far : 2 * nodes r.0 ≤ 8192 = omega (arith, r.1.1) in
        let e : type_of_variable i count ns v ≡ r.0 = type_below i count ns v l ∙ r.1.0 (λ q. int) 8192 far in
        omega (arith, ap nodes e, r.1.1)
    | inr g ↦ omega (arith, ap nodes (type_past i count ns v g))
  ]

  -- classes of what is read are those of what variables mean
  pub solved_within : (members : List Member) (of : ℕ → Class) → All (λ m. m.variable < count) members → IsInAll (type_in i ns) of members → IsInAll (type_of_variable i count ns) of members
  solved_within members of below h j d l =
      let m = get_or members j d in
      subst (IsIn of m.class) (sym (type_below i count ns m.variable (below j d l))) (h j d l)

  pub solved_members : (members : List Member) (s z : ℕ → Term) (of : ℕ → Class) → Fits i z ns → ((v : ℕ) → v < count → z v ≡ s v) → All (λ m. m.variable < count) members → IsInAll s of members →
      IsInAll (λ v. substitute s (type_in i ns v)) of members
  solved_members members s z of f e below h j d l =
      let m = get_or members j d in
      subst (IsIn of m.class) (solved_general s z f e m.variable ∙ ap (substitute s) (type_below i count ns m.variable (below j d l))) (h j d l)
