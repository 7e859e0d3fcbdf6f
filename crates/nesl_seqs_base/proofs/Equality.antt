-- `tree_eq` decides whether two trees are the same.
use Rattle.std.proofs.Common.{Result, Ok, Err, IfOk, ◌≡◌, Bool, true, false, ◌&&◌, ◌↔◌, IsTrue, refl, ap, sym, ◌∙◌}
use Rattle.std.specs.Prelude.{◌==◌}
use Rattle.std.proofs.lemmas.Bool.Decides.{Decides-eqb, Decides-int_eq}
use Rattle.nesl_values.specs.Tree.{ValueTree, ValueTrees, int, boolean, character, pair, seq, tagged, no_trees}
use Rattle.nesl_values.specs.Tree.{tree_then}
use Rattle.nesl_seqs_base.specs.Equal.{bool_eq, tree_eq, trees_eq}

pub left_true : (a b : Bool) → (a && b) ≡ true → a ≡ true
left_true true b h = refl
left_true false b h = absurd (cc h)

pub right_true : (a b : Bool) → (a && b) ≡ true → b ≡ true
right_true true b h = h
right_true false b h = absurd (cc h)

pub both_true : (a b : Bool) → a ≡ true → b ≡ true → (a && b) ≡ true
both_true true b h p = p
both_true false b h p = absurd (cc h)

same_bools : (b c : Bool) → bool_eq b c ≡ true → b ≡ c
same_bools true c h = sym h
same_bools false true h = absurd (cc h)
same_bools false false h = refl

bool_itself : (b : Bool) → bool_eq b b ≡ true
bool_itself true = refl
bool_itself false = refl

mutual
  same_trees : (t u : ValueTree) → tree_eq t u ≡ true → t ≡ u
  same_trees (int m) (int n) h = ap int ((Decides-int_eq m n).0 h)
  same_trees (boolean b) (boolean c) h = ap boolean (same_bools b c h)
  same_trees (character c) (character d) h = ap character ((Decides-eqb c d).0 h)
  same_trees (pair l r) (pair m s) h =
      ap (λ x. pair x r) (same_trees l m (left_true (tree_eq l m) (tree_eq r s) h)) ∙ ap (pair m) (same_trees r s (right_true (tree_eq l m) (tree_eq r s) h))
  same_trees (seq ts) (seq us) h = ap seq (same_lists ts us h)
  same_trees (tagged n t) (tagged m u) h =
      ap (λ k. tagged k t) ((Decides-eqb n m).0 (left_true (n == m) (tree_eq t u) h)) ∙ ap (tagged m) (same_trees t u (right_true (n == m) (tree_eq t u) h))
  same_trees t u h = absurd (cc h)

  same_lists : (ts us : ValueTrees) → trees_eq ts us ≡ true → ts ≡ us
  same_lists no_trees no_trees h = refl
  same_lists (tree_then t ts) (tree_then u us) h =
      ap (λ x. tree_then x ts) (same_trees t u (left_true (tree_eq t u) (trees_eq ts us) h)) ∙ ap (tree_then u) (same_lists ts us (right_true (tree_eq t u) (trees_eq ts us) h))
  same_lists ts us h = absurd (cc h)

mutual
  itself : (t : ValueTree) → tree_eq t t ≡ true
  itself (int m) = (Decides-int_eq m m).1 refl
  itself (boolean b) = bool_itself b
  itself (character c) = (Decides-eqb c c).1 refl
  itself (pair l r) = both_true (tree_eq l l) (tree_eq r r) (itself l) (itself r)
  itself (seq ts) = themselves ts
  itself (tagged n t) = both_true (n == n) (tree_eq t t) ((Decides-eqb n n).1 refl) (itself t)

  themselves : (ts : ValueTrees) → trees_eq ts ts ≡ true
  themselves no_trees = refl
  themselves (tree_then t ts) = both_true (tree_eq t t) (trees_eq ts ts) (itself t) (themselves ts)

pub tree_eq_is : (t u : ValueTree) → (tree_eq t u ≡ true) ↔ (t ≡ u)
tree_eq_is t u = (same_trees t u, λ h. ap (tree_eq t) (sym h) ∙ itself t)

from_iff : (a b : Bool) → (a ≡ true → b ≡ true) → (b ≡ true → a ≡ true) → a ≡ b
from_iff true b f g = sym (f refl)
from_iff false true f g = g refl
from_iff false false f g = refl

pub told_equal : (t u : ValueTree) (b : Bool) → (IsTrue b ↔ (t ≡ u)) → b ≡ tree_eq t u
told_equal t u b h = from_iff b (tree_eq t u) (λ p. (tree_eq_is t u).1 (h.0 p)) (λ p. h.1 ((tree_eq_is t u).0 p))

pub told_equal_if_ok : {E : Type 0} (t u : ValueTree) (r : Result Bool E) → IfOk r (λ b. IsTrue b ↔ (t ≡ u)) → IfOk r (λ b. b ≡ tree_eq t u)
told_equal_if_ok t u (Ok b) h = told_equal t u b h
told_equal_if_ok t u (Err e) h = tt
