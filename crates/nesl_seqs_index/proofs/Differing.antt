-- Places that differ from those before them.
use Rattle.std.proofs.Common.{◌≡◌, ◌≢◌, ℕ, ℤ, pos, negsuc, ◌+◌, ◌/◌, ◌<◌, Bool, true, false, not, ◌||◌, ◌&&◌, cond, nat_eq, nat_lt, List, [], ◌∷◌, ◌++◌, length, map, take, drop, get_or, refl, ap, sym, subst, ◌∙◌, arith, append_assoc, Option, Some, None, option_and_then, w64}
use Rattle.std.specs.Int.{cast_unsigned}
use Rattle.nesl_values.specs.Parts.{as_int}
use Rattle.std.specs.List.{list_any, list_all, cons_option}
use Rattle.std.proofs.lemmas.Bool.Decides.{Decides-eqb, Decides-ltb}
use Rattle.std.proofs.lemmas.List.{append-nil}
use Rattle.std.proofs.lemmas.List.Folds.{list_any-append}
use Rattle.std.proofs.Math.Bool.{or-true}
use Rattle.nesl_values.specs.Tree.{ValueTree}
use Rattle.nesl_seqs_index.specs.Marks.{is_new, are_new, MarksSeen}
use Rattle.nesl_seqs_base.specs.Permute.{all_differ}
use Rattle.nesl_seqs_base.specs.Places.{place_in, place_of, places_of}
use Rattle.nesl_seqs_base.proofs.Equality.{left_true, right_true, both_true}
use Rattle.nesl_seqs_index.proofs.Marking.{are_apart, test_apart, or_false, not_true}
use Rattle.nesl_seqs_index.proofs.Picking.{places_more, rest_places, place_of_within}

-- one more that was seen
pub seen_more : (k : ℕ) (seen : List ℕ) (place : ℕ) → list_any (nat_eq k) (seen ++ place ∷ []) ≡ (list_any (nat_eq k) seen || nat_eq k place)
seen_more k seen place = list_any-append (nat_eq k) seen (place ∷ []) ∙ ap (λ b. list_any (nat_eq k) seen || b) (or_false (nat_eq k place) false refl)

pub held_outside : (m : List ℕ) (window : ℕ) (seen : List ℕ) (place : ℕ) → place / 524288 ≢ window → MarksSeen m window seen → MarksSeen m window (seen ++ place ∷ [])
held_outside m window seen place out holds k here =
    let apart : nat_eq k place ≡ false = test_apart k place (λ e. out (ap (λ n. n / 524288) (sym e) ∙ here)) in
    holds k here ∙ sym (seen_more k seen place ∙ or_false (list_any (nat_eq k) seen) (nat_eq k place) apart)

pub new_outside : (window : ℕ) (seen : List ℕ) (place : ℕ) → place / 524288 ≢ window → is_new window seen place ≡ true
new_outside window seen place out = ap (λ b. not b || not (list_any (nat_eq place) seen)) (test_apart (place / 524288) window out)

place_elsewhere : (n k window : ℕ) (z : ℤ) → cast_unsigned w64 z / 524288 ≢ window → Some k ≡ option_and_then (place_in n) (Some z) → k / 524288 ≢ window
place_elsewhere n k window (negsuc i) out names = absurd (cc names)
place_elsewhere n k window (pos i) out names = by_test (nat_lt i n) names
  where
    by_test : (b : Bool) → Some k ≡ cond b (Some i) None → k / 524288 ≢ window
    by_test true p =
        let same : k ≡ i = cc p in
        λ e. out (ap (λ m. m / 524288) (sym same) ∙ e)
    by_test false p = absurd (cc p)

pub is_elsewhere : (n k window : ℕ) (t : ValueTree) (z : ℤ) → Some z ≡ as_int t → cast_unsigned w64 z / 524288 ≢ window → Some k ≡ place_of n t → k / 524288 ≢ window
is_elsewhere n k window t z is out names = place_elsewhere n k window z out (subst (λ o. Some k ≡ option_and_then (place_in n) o) (sym is) names)

-- one more turn of the loop over one window
pub held_turn : {I : Type 0} (f : I → ValueTree) (m : List ℕ) (n window : ℕ) (is : List I) (j : ℕ) (i : I) (k : ℕ) → j < length is → i ≡ get_or is j i → Some k ≡ place_of n (f i) → MarksSeen m window (places_of n (map f (take j is)) ++ k ∷ []) → MarksSeen m window (places_of n (map f (take (j + 1) is)))
held_turn f m n window is j i k h at names holds = rw (places_more f n is j i (Some k) h at names) holds

pub new_turn : {I : Type 0} (f : I → ValueTree) (n window : ℕ) (is : List I) (j : ℕ) (i : I) (k : ℕ) (all : Bool) → j < length is → i ≡ get_or is j i → Some k ≡ place_of n (f i) → is_new window (places_of n (map f (take j is))) k ≡ true
    → are_new window (places_of n (map f (take j is))) (places_of n (map f (drop j is))) ≡ all → are_new window (places_of n (map f (take (j + 1) is))) (places_of n (map f (drop (j + 1) is))) ≡ all
new_turn f n window is j i k all h at names new before =
    let seen = places_of n (map f (take j is)) in
    let rest = places_of n (map f (drop (j + 1) is)) in
    ap (λ ks. are_new window ks rest) (places_more f n is j i (Some k) h at names) ∙ ap (λ b. b && are_new window (seen ++ k ∷ []) rest) (sym new) ∙ ap (are_new window seen) (sym (rest_places f n is j i (Some k) h at names)) ∙ before

pub held_same : {I : Type 0} (f : I → ValueTree) (m : List ℕ) (n window : ℕ) (is : List I) (j : ℕ) (i : I) → j < length is → i ≡ get_or is j i → None ≡ place_of n (f i) → MarksSeen m window (places_of n (map f (take j is))) → MarksSeen m window (places_of n (map f (take (j + 1) is)))
held_same f m n window is j i h at names holds = rw (places_more f n is j i None h at names ∙ append-nil (places_of n (map f (take j is)))) holds

pub new_same : {I : Type 0} (f : I → ValueTree) (n window : ℕ) (is : List I) (j : ℕ) (i : I) (all : Bool) → j < length is → i ≡ get_or is j i → None ≡ place_of n (f i)
    → are_new window (places_of n (map f (take j is))) (places_of n (map f (drop j is))) ≡ all → are_new window (places_of n (map f (take (j + 1) is))) (places_of n (map f (drop (j + 1) is))) ≡ all
new_same f n window is j i all h at names before =
    let seen = places_of n (map f (take j is)) in
    ap (λ ks. are_new window ks (places_of n (map f (drop (j + 1) is)))) (places_more f n is j i None h at names ∙ append-nil seen) ∙ ap (are_new window seen) (sym (rest_places f n is j i None h at names)) ∙ before

-- one more turn of the loop over one window, at an index of another one
turn_elsewhere : {I : Type 0} (f : I → ValueTree) (m : List ℕ) (n window : ℕ) (is : List I) (j : ℕ) (i : I) (all : Bool) (o : Option ℕ) → j < length is → i ≡ get_or is j i → o ≡ place_of n (f i) → ((k : ℕ) → Some k ≡ o → k / 524288 ≢ window)
    → (MarksSeen m window (places_of n (map f (take j is))) × (are_new window (places_of n (map f (take j is))) (places_of n (map f (drop j is))) ≡ all))
    → MarksSeen m window (places_of n (map f (take (j + 1) is))) × (are_new window (places_of n (map f (take (j + 1) is))) (places_of n (map f (drop (j + 1) is))) ≡ all)
turn_elsewhere f m n window is j i all None h at names out before =
    (held_same f m n window is j i h at names before.0, new_same f n window is j i all h at names before.1)
turn_elsewhere f m n window is j i all (Some k) h at names out before =
    let seen = places_of n (map f (take j is)) in
    (held_turn f m n window is j i k h at names (held_outside m window seen k (out k refl) before.0), new_turn f n window is j i k all h at names (new_outside window seen k (out k refl)) before.1)

pub elsewhere_turn : {I : Type 0} (f : I → ValueTree) (m : List ℕ) (n window : ℕ) (is : List I) (j : ℕ) (i : I) (all : Bool) → j < length is → i ≡ get_or is j i → ((k : ℕ) → Some k ≡ place_of n (f i) → k / 524288 ≢ window)
    → (MarksSeen m window (places_of n (map f (take j is))) × (are_new window (places_of n (map f (take j is))) (places_of n (map f (drop j is))) ≡ all))
    → MarksSeen m window (places_of n (map f (take (j + 1) is))) × (are_new window (places_of n (map f (take (j + 1) is))) (places_of n (map f (drop (j + 1) is))) ≡ all)
elsewhere_turn f m n window is j i all h at out before = turn_elsewhere f m n window is j i all (place_of n (f i)) h at refl out before

-- all differ where in each window all differ
or_left : (b c : Bool) → (b || c) ≡ false → b ≡ false
or_left true c h = absurd (cc h)
or_left false c h = refl

or_right : (b c : Bool) → (b || c) ≡ false → c ≡ false
or_right true c h = absurd (cc h)
or_right false c h = h

-- what comes later differs from what comes before
pub differ_split : (xs : List ℕ) (k : ℕ) (ys : List ℕ) → all_differ (xs ++ k ∷ ys) ≡ true → list_any (nat_eq k) xs ≡ false
differ_split [] k ys h = refl
differ_split (x ∷ xs) k ys h =
    let none : list_any (nat_eq x) (xs ++ k ∷ ys) ≡ false = not_true (list_any (nat_eq x) (xs ++ k ∷ ys)) (left_true (not (list_any (nat_eq x) (xs ++ k ∷ ys))) _ h) in
    let later : (nat_eq x k || list_any (nat_eq x) ys) ≡ false = or_right (list_any (nat_eq x) xs) _ (sym (list_any-append (nat_eq x) xs (k ∷ ys)) ∙ none) in
    let apart : nat_eq k x ≡ false = test_apart k x (λ e. are_apart x k (or_left (nat_eq x k) (list_any (nat_eq x) ys) later) (sym e)) in
    ap (λ b. b || list_any (nat_eq k) xs) apart ∙ differ_split xs k ys (right_true (not (list_any (nat_eq x) (xs ++ k ∷ ys))) _ h)

pub differ_more : (xs : List ℕ) (k : ℕ) → all_differ xs ≡ true → list_any (nat_eq k) xs ≡ false → all_differ (xs ++ k ∷ []) ≡ true
differ_more [] k h p = refl
differ_more (x ∷ xs) k h p =
    let apart : nat_eq x k ≡ false = test_apart x k (λ e. are_apart k x (or_left (nat_eq k x) (list_any (nat_eq k) xs) p) (sym e)) in
    let old : list_any (nat_eq x) xs ≡ false = not_true (list_any (nat_eq x) xs) (left_true (not (list_any (nat_eq x) xs)) _ h) in
    let none : list_any (nat_eq x) (xs ++ k ∷ []) ≡ false = seen_more x xs k ∙ or_false (list_any (nat_eq x) xs) (nat_eq x k) apart ∙ old in
    both_true (not (list_any (nat_eq x) (xs ++ k ∷ []))) _ (ap not none) (differ_more xs k (right_true (not (list_any (nat_eq x) xs)) _ h) (or_right (nat_eq k x) (list_any (nat_eq k) xs) p))

new_if_none : (window : ℕ) (seen : List ℕ) (k : ℕ) → list_any (nat_eq k) seen ≡ false → is_new window seen k ≡ true
new_if_none window seen k h = ap (λ b. not (nat_eq (k / 524288) window) || not b) h ∙ or-true (not (nat_eq (k / 524288) window))

all_new : (window : ℕ) (seen ks : List ℕ) → all_differ (seen ++ ks) ≡ true → are_new window seen ks ≡ true
all_new window seen [] h = refl
all_new window seen (k ∷ ks) h =
    both_true (is_new window seen k) _ (new_if_none window seen k (differ_split seen k ks h)) (all_new window (seen ++ k ∷ []) ks (ap all_differ (append_assoc seen (k ∷ []) ks) ∙ h))

pub not_new : (window : ℕ) (ks : List ℕ) → are_new window [] ks ≡ false → false ≡ all_differ ks
not_new window ks h = by_test (all_differ ks) refl
  where
    by_test : (b : Bool) → all_differ ks ≡ b → false ≡ b
    by_test true e = sym h ∙ all_new window [] ks e
    by_test false e = refl

all_from_windows : (count : ℕ) (seen ks : List ℕ) → ((w : ℕ) → w < count → are_new w seen ks ≡ true) → list_all (λ k. nat_lt (k / 524288) count) ks ≡ true → all_differ seen ≡ true → all_differ (seen ++ ks) ≡ true
all_from_windows count seen [] new below h = ap all_differ (append-nil seen) ∙ h
all_from_windows count seen (k ∷ ks) new below h =
    let within : k / 524288 < count = (Decides-ltb (k / 524288) count).0 (left_true (nat_lt (k / 524288) count) _ below) in
    let here : is_new (k / 524288) seen k ≡ true = left_true (is_new (k / 524288) seen k) _ (new (k / 524288) within) in
    let none : list_any (nat_eq k) seen ≡ false = not_true (list_any (nat_eq k) seen) (ap (λ b. not b || not (list_any (nat_eq k) seen)) (sym ((Decides-eqb (k / 524288) (k / 524288)).1 refl)) ∙ here) in
    ap all_differ (sym (append_assoc seen (k ∷ []) ks)) ∙ all_from_windows count (seen ++ k ∷ []) ks (λ w p. right_true (is_new w seen k) _ (new w p)) (right_true (nat_lt (k / 524288) count) _ below) (differ_more seen k h none)

below_windows : (n : ℕ) (ts : List ValueTree) → list_all (λ k. nat_lt (k / 524288) (n / 524288 + 1)) (places_of n ts) ≡ true
below_windows n [] = refl
below_windows n (t ∷ ts) = one_more (place_of n t) (places_of n ts) (λ k e. omega (arith, place_of_within n t k e)) (below_windows n ts) refl
  where
    one_more : (o : Option ℕ) (ks : List ℕ) → ((k : ℕ) → place_of n t ≡ Some k → k / 524288 < n / 524288 + 1) → list_all (λ k. nat_lt (k / 524288) (n / 524288 + 1)) ks ≡ true → place_of n t ≡ o → list_all (λ k. nat_lt (k / 524288) (n / 524288 + 1)) (cons_option o ks) ≡ true
    one_more None ks le h e = h
    one_more (Some k) ks le h e = both_true (nat_lt (k / 524288) (n / 524288 + 1)) _ ((Decides-ltb (k / 524288) (n / 524288 + 1)).1 (le k e)) h

pub all_windows : (n : ℕ) (ts : List ValueTree) → ((w : ℕ) → w < n / 524288 + 1 → are_new w [] (places_of n ts) ≡ true) → true ≡ all_differ (places_of n ts)
all_windows n ts new = sym (all_from_windows (n / 524288 + 1) [] (places_of n ts) new (below_windows n ts) refl)
