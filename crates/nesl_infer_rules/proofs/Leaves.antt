-- What variables, elements and empty sequences add.
use Rattle.std.proofs.Common.{◌≡◌, ◌<◌, ◌≤◌, ◌+◌, ℕ, sym, ap, ◌∙◌, subst, arith}
use Rattle.std.specs.Prelude.{Option, Some, None}
use Rattle.nesl_types.specs.declared.classes.Class.{Class}
use Rattle.nesl_types_shared.specs.Term.{Term, named, seq_of, pair_of, nodes}
use Rattle.nesl_syntax_tree.specs.Trees.{TypeTree, TypeShape, written}
use Rattle.nesl_syntax_tree.specs.Trees as trees
use Rattle.nesl_infer_rules.specs.declared.state.State.{State}
use Rattle.nesl_infer_rules.specs.World.{DatatypesByName}
use Rattle.nesl_infer_rules.specs.Typing.{IsWritten, IsWrittenShape}
use Rattle.nesl_infer_rules.specs.Steps.{count, Adds}
use Rattle.nesl_infer_rules.proofs.Steps.{gives_and, adds_as, adds_from}
use Rattle.nesl_infer_rules.proofs.Arms.{AnyTerm}

-- what was looked up
pub looked_up : {A B : State} (Q : (ℕ → Term) → (ℕ → Class) → Option Term → Type 0) (k o : (ℕ → Term) → Option Term) → ((s : ℕ → Term) → k s ≡ o s) →
    Adds A B (λ s of. Q s of (k s)) → Adds A B (λ s of. Q s of (o s))
looked_up Q k o e p =
    adds_as (λ s of x. Q s of (k s)) (λ s of. Q s of (o s)) p (λ s of b h. subst (λ (x : Option Term). Q s of x) (e s) h) (λ s of h. (tt, subst (λ (x : Option Term). Q s of x) (sym (e s)) h))

pub some_is : {A B : State} (v u : ℕ) → Adds A B (λ s of. s v ≡ s u) → Adds A B (λ s of. Some (s u) ≡ Some (s v))
some_is v u p = adds_as (λ s of x. s v ≡ s u) (λ s of. Some (s u) ≡ Some (s v)) p (λ s of b h. ap Some (sym h)) (λ s of h. (tt, inside (s u) (s v) h))
  where
    inside : (a b : Term) → Some a ≡ Some b → b ≡ a
    inside a b e = cc

pub none_is : {A B : State} (v : ℕ) → Adds A B (λ s of. ⊥) → Adds A B (λ s of. None ≡ Some (s v))
none_is v p = adds_as (λ s of x. ⊥) (λ s of. None ≡ Some (s v)) p (λ s of b h. absurd h) (λ s of h. (tt, none (s v) h))
  where
    none : (a : Term) → None ≡ Some a → ⊥
    none a e = cc

same_inside : (c d : ℕ × Term) → Some c ≡ Some d → c ≡ d
same_inside c d q = cc

-- a type that is written is one type
mutual
  pub written-unique : (ds : DatatypesByName) (a : TypeTree) (t u : Term) → IsWritten ds a t → IsWritten ds a u → u ≡ t
  written-unique ds (written s k) t u h j = written_shape-unique ds k t u h j

  written_shape-unique : (ds : DatatypesByName) (k : TypeShape) (t u : Term) → IsWrittenShape ds k t → IsWrittenShape ds k u → u ≡ t
  written_shape-unique ds trees.int t u h j = j ∙ sym h
  written_shape-unique ds trees.bool t u h j = j ∙ sym h
  written_shape-unique ds trees.char t u h j = j ∙ sym h
  written_shape-unique ds (trees.named x s) t u h j = j.2 ∙ ap (λ (d : ℕ × Term). named d.0) (same_inside j.0 h.0 (sym j.1 ∙ h.1)) ∙ sym h.2
  written_shape-unique ds (trees.sequence_type a) t u h j = j.2 ∙ ap seq_of (written-unique ds a h.0 j.0 h.1 j.1) ∙ sym h.2
  written_shape-unique ds (trees.pair_type a b) t u h j =
      j.4 ∙ ap (λ (x : Term). pair_of x j.1) (written-unique ds a h.0 j.0 h.2 j.2) ∙ ap (λ (x : Term). pair_of h.0 x) (written-unique ds b h.1 j.1 h.3 j.3) ∙ sym h.4

pub arm_empty : {A B1 B2 C : State} (ds : DatatypesByName) (a : TypeTree) (t : Term) (i v : ℕ) → v < count A → IsWritten ds a t →
    AnyTerm A B1 i → Adds B1 B2 (λ s of. s i ≡ t) → Adds B2 C (λ s of. s v ≡ seq_of (s i)) → Adds A C (λ s of. (u : Term) × IsWritten ds a u × (s v ≡ seq_of u))
arm_empty ds a t i v inside w p1 p2 p3 =
    let q2 = gives_and (λ s of u. nodes u ≤ 4096) (λ u s of. u ≡ t) p1 p2 (λ u s z of k h. h) in
    let q3 = gives_and _ (λ u s of. s v ≡ seq_of u) q2 p3 (λ u s z of k h. sym (k v inside) ∙ h) in
    adds_from _ (λ s of. (u : Term) × IsWritten ds a u × (s v ≡ seq_of u)) q3
    (λ s of b h. (s i, subst (λ (x : Term). IsWritten ds a x) (sym h.0.1) w, h.1))
    (λ s of b h. let e : nodes (s v) ≡ 1 + nodes h.0 = ap nodes h.2 in let l = b v in (h.0, ((omega arith, written-unique ds a t h.0 w h.1), h.2)))

pub arm_no_empty : {A B : State} (ds : DatatypesByName) (a : TypeTree) (v : ℕ) → ((u : Term) → IsWritten ds a u → ⊥) → Adds A B (λ s of. ⊥) → Adds A B (λ s of. (u : Term) × IsWritten ds a u × (s v ≡ seq_of u))
arm_no_empty ds a v n p = adds_as (λ s of x. ⊥) (λ s of. (u : Term) × IsWritten ds a u × (s v ≡ seq_of u)) p (λ s of b h. absurd h) (λ s of h. (tt, n h.0 h.1))
