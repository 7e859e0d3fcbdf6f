-- Writes of leaves over leaves.
use Rattle.std.proofs.Common.{◌≡◌, ℕ, ◌+◌, Bool, true, false, cond, nat_eq, List, [], ◌∷◌, ◌++◌, length, map, reverse, refl, ap, ◌∙◌, arith, Option, Some, None, option_map, unwrap_or}
use Rattle.std.specs.List.{list_all, cons_option, enumerate_from}
use Rattle.std.proofs.lemmas.List.{reverse-append}
use Rattle.nesl_values.specs.Tree.{ValueTree, int, boolean, character, pair, size, sizes, trees_of}
use Rattle.nesl_seqs_base.specs.Places.{place_of, arrival}
use Rattle.nesl_seqs_base.specs.Write.{overwritten, write_of, writes_of, is_leaf, writes_leaf}
use Rattle.nesl_seqs_base.proofs.Equality.{left_true, right_true, both_true}
use Rattle.nesl_seqs_index.proofs.Picking.{list_all_map}
use Rattle.nesl_seqs_index.proofs.Permuting.{first_arrival}

size_leaf : (t : ValueTree) → is_leaf t ≡ true → size t ≡ 1
size_leaf (int n) h = refl
size_leaf (boolean b) h = refl
size_leaf (character c) h = refl
size_leaf t h = absurd (cc h)

all_append : {X : Type 0} (p : X → Bool) (xs ys : List X) → list_all p xs ≡ true → list_all p ys ≡ true → list_all p (xs ++ ys) ≡ true
all_append p [] ys h k = k
all_append p (x ∷ xs) ys h k = both_true (p x) _ (left_true (p x) _ h) (all_append p xs ys (right_true (p x) _ h) k)

all_reverse : {X : Type 0} (p : X → Bool) (xs : List X) → list_all p xs ≡ true → list_all p (reverse xs) ≡ true
all_reverse p [] h = refl
all_reverse p (x ∷ xs) h =
    ap (list_all p) (reverse-append (x ∷ []) xs) ∙ all_append p (reverse xs) (x ∷ []) (all_reverse p xs (right_true (p x) _ h)) (both_true (p x) true (left_true (p x) _ h) refl)

-- what is written is a leaf each time
written_leaf : (n : ℕ) (t : ValueTree) (w : ℕ × ValueTree) → Some w ≡ write_of n t → writes_leaf t ≡ true → is_leaf w.1 ≡ true
written_leaf n (pair l r) w e h = by_place (place_of n l) e
  where
    by_place : (o : Option ℕ) → ◌≡◌ {A = Option (ℕ × ValueTree)} (Some w) (option_map (λ k. (k, r)) o) → is_leaf w.1 ≡ true
    by_place None q = absurd (cc q)
    by_place (Some k) q =
        let same : ◌≡◌ {A = ℕ × ValueTree} w (k, r) = cc q in
        ap (λ v. is_leaf v.1) same ∙ h
written_leaf n t w e h = absurd (cc e)

leaves_written : (n : ℕ) (us : List ValueTree) → list_all writes_leaf us ≡ true → list_all (λ w. is_leaf w.1) (writes_of n us) ≡ true
leaves_written n [] h = refl
leaves_written n (u ∷ us) h =
    one_more (write_of n u) (writes_of n us) (λ w e. written_leaf n u w e (left_true (writes_leaf u) _ h)) (leaves_written n us (right_true (writes_leaf u) _ h)) refl
  where
    one_more : (o : Option (ℕ × ValueTree)) (ws : List (ℕ × ValueTree)) → ((w : ℕ × ValueTree) → Some w ≡ write_of n u → is_leaf w.1 ≡ true) → list_all (λ w. is_leaf w.1) ws ≡ true → o ≡ write_of n u → list_all (λ w. is_leaf w.1) (cons_option o ws) ≡ true
    one_more None ws leaf k e = k
    one_more (Some w) ws leaf k e = both_true (is_leaf w.1) _ (leaf w e) k

arrives_leaf : (ws : List (ℕ × ValueTree)) (k : ℕ) (t : ValueTree) → list_all (λ w. is_leaf w.1) ws ≡ true → is_leaf t ≡ true → is_leaf (unwrap_or (arrival ws k) t) ≡ true
arrives_leaf [] k t h leaf = leaf
arrives_leaf (w ∷ ws) k t h leaf =
    ap (λ o. is_leaf (unwrap_or o t)) (first_arrival w.0 w.1 ws k) ∙ by_test (nat_eq k w.0) (arrival ws k) (left_true (is_leaf w.1) _ h) (arrives_leaf ws k t (right_true (is_leaf w.1) _ h) leaf)
  where
    by_test : (b : Bool) (o : Option ValueTree) → is_leaf w.1 ≡ true → is_leaf (unwrap_or o t) ≡ true → is_leaf (unwrap_or (cond b (Some w.1) o) t) ≡ true
    by_test true o p q = p
    by_test false o p q = q

sizes_leaves : (a : ℕ) (ws : List (ℕ × ValueTree)) (ts : List ValueTree) → list_all (λ w. is_leaf w.1) ws ≡ true → list_all is_leaf ts ≡ true → sizes (trees_of (map (λ e. unwrap_or (arrival ws e.0) e.1) (enumerate_from a ts))) ≡ length ts
sizes_leaves a ws [] h leaf = refl
sizes_leaves a ws (t ∷ ts) h leaf =
    omega (arith, size_leaf (unwrap_or (arrival ws a) t) (arrives_leaf ws a t h (left_true (is_leaf t) _ leaf)), sizes_leaves (a + 1) ws ts h (right_true (is_leaf t) _ leaf))

-- so there are as many nodes as elements
pub overwritten_leaves : {P : Type 0} (f : P → ValueTree) (ts : List ValueTree) (n : ℕ) (ps : List P) → list_all is_leaf ts ≡ true → list_all (λ p. writes_leaf (f p)) ps ≡ true → sizes (trees_of (overwritten ts (writes_of n (map f ps)))) ≡ length ts
overwritten_leaves f ts n ps leaf writes = sizes_leaves 0 (reverse (writes_of n (map f ps))) ts (all_reverse (λ w. is_leaf w.1) (writes_of n (map f ps)) (leaves_written n (map f ps) (list_all_map writes_leaf f ps ∙ writes))) leaf

pub all_leaves : {X : Type 0} (f : X → ValueTree) → ((x : X) → is_leaf (f x) ≡ true) → (xs : List X) (ts : List ValueTree) → ts ≡ map f xs → list_all is_leaf ts ≡ true
all_leaves {X = X} f leaf xs ts is = ap (list_all is_leaf) is ∙ all_of_them xs
  where
    all_of_them : (ys : List X) → list_all is_leaf (map f ys) ≡ true
    all_of_them [] = refl
    all_of_them (y ∷ ys) = both_true (is_leaf (f y)) _ (leaf y) (all_of_them ys)
