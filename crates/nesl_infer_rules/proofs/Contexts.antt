-- Names that are closed stay closed where a closed one is defined.
use Rattle.std.proofs.Common.{◌≡◌, ℕ, Bool, true, false, cond, inl, inr, List, [], ◌∷◌, refl, sym, ap, ◌∙◌, subst}
use Rattle.std.specs.Prelude.{◌⊎◌, Option, Some, None}
use Rattle.std.specs.Str.{bytes_eq}
use Rattle.nesl_types.specs.declared.bindings.Top.{Top}
use Rattle.nesl_types.specs.Names.{found, with_name}
use Rattle.nesl_types_shared.specs.Numbering.{IsBelow}
use Rattle.nesl_types_shared.specs.Term.{Term}
use Rattle.nesl_syntax_tree.specs.Trees.{TypeTree, TypeShape, written}
use Rattle.nesl_syntax_tree.specs.Trees as trees
use Rattle.nesl_infer_rules.specs.Contexts.{IsClosed, AreClosed}
use Rattle.nesl_infer_rules.specs.World.{DatatypesByName}
use Rattle.nesl_infer_rules.specs.Typing.{IsWritten, IsWrittenShape}

-- what a name is after another was defined: what it was, or what was defined
abbrev pub IsOneOf : {P : Type 0} → Top → P → Option (Top × P) → Option (Top × P) → Type 0
IsOneOf t p new old = (new ≡ old) ⊎ (new ≡ Some (t, p))

first_name : {P : Type 0} (t : Top) (p : P) (here : Bool) → IsOneOf t p (cond here (Some (t, p)) None) None
first_name t p true = inr refl
first_name t p false = inl refl

found-cond : {P : Type 0} (y : List ℕ) (own : Bool) (bs cs : List (List ℕ × Top × P)) → found y (cond own bs cs) ≡ cond own (found y bs) (found y cs)
found-cond y true bs cs = refl
found-cond y false bs cs = refl

one_more_name : {P : Type 0} (t : Top) (p : P) (b new old : Option (Top × P)) → IsOneOf t p new old → (own here : Bool) →
    IsOneOf t p (cond own (cond here (Some (t, p)) old) (cond here b new)) (cond here b old)
one_more_name t p b new old h true true = inr refl
one_more_name t p b new old h true false = inl refl
one_more_name t p b new old h false true = inl refl
one_more_name t p b new old h false false = h

pub found_after : {P : Type 0} (x y : List ℕ) (t : Top) (p : P) (bs : List (List ℕ × Top × P)) → IsOneOf t p (found y (with_name x t p bs)) (found y bs)
found_after x y t p [] = first_name t p (bytes_eq y x)
found_after x y t p (b ∷ bs) =
    subst (λ o. IsOneOf t p o (found y (b ∷ bs))) (sym (found-cond y (bytes_eq x b.0) ((b.0, t, p) ∷ bs) (b ∷ with_name x t p bs)))
    (one_more_name t p (Some (b.1, b.2)) (found y (with_name x t p bs)) (found y bs) (found_after x y t p bs) (bytes_eq x b.0) (bytes_eq y b.0))

same_inside : {P : Type 0} (a b : Top × P) → Some a ≡ Some b → a ≡ b
same_inside a b e = cc

pub closed_with : {P : Type 0} (x : List ℕ) (t : Top) (p : P) (bs : List (List ℕ × Top × P)) → IsClosed t → AreClosed bs → AreClosed (with_name x t p bs)
closed_with x t p bs k h = λ y u q e.
    elim (found_after x y t p bs) [
      | inl i ↦ h y u q (sym i ∙ e)
      | inr i ↦ subst IsClosed (ap (λ a. a.0) (same_inside (t, p) (u, q) (sym i ∙ e))) k
    ]

-- no variable occurs in a type that is written
mutual
  pub written-closed : (ds : DatatypesByName) (a : TypeTree) (t : Term) → IsWritten ds a t → IsBelow 0 t
  written-closed ds (written s k) t h = shape-closed ds k t h

  pub shape-closed : (ds : DatatypesByName) (k : TypeShape) (t : Term) → IsWrittenShape ds k t → IsBelow 0 t
  shape-closed ds trees.int t h = subst (IsBelow 0) (sym h) tt
  shape-closed ds trees.bool t h = subst (IsBelow 0) (sym h) tt
  shape-closed ds trees.char t h = subst (IsBelow 0) (sym h) tt
  shape-closed ds (trees.named x s) t h = subst (IsBelow 0) (sym h.2) tt
  shape-closed ds (trees.sequence_type a) t h = subst (IsBelow 0) (sym h.2) (written-closed ds a h.0 h.1)
  shape-closed ds (trees.pair_type a b) t h = subst (IsBelow 0) (sym h.4) (written-closed ds a h.0 h.2, written-closed ds b h.1 h.3)
