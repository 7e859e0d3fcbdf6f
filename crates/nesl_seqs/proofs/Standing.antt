-- Each element is where its index says.
use Rattle.std.proofs.Common.{◌≡◌, ℕ, ℤ, zero, suc, pos, negsuc, ◌<◌, Bool, true, false, not, ◌||◌, ◌&&◌, cond, nat_eq, nat_lt, List, [], ◌∷◌, length, zip, refl, ap, sym, subst, ◌∙◌, arith, Option, Some, None, is_some, option_and_then, slice_get}
use Rattle.std.specs.List.{list_any, list_all, filter_map, cons_option, range_with_len}
use Rattle.std.proofs.Math.Bool.{or-true}
use Rattle.std.proofs.lemmas.Bool.{false≢true}
use Rattle.std.proofs.lemmas.Bool.Decides.{Decides-eqb, Decides-ltb}
use Rattle.std.proofs.lemmas.List.{map-id}
use Rattle.std.proofs.lemmas.List.FromFn.{length-range_with_len, get_or-range_with_len}
use Rattle.std.proofs.lemmas.Option.{slice_get-get_or}
use Rattle.nesl_values.specs.Tree.{ValueTree, int, sequence}
use Rattle.nesl_values.specs.Parts.{as_int}
use Rattle.nesl_seqs_base.specs.Outcome.{gives, if_there, IsGiven}
use Rattle.nesl_seqs_base.specs.Reductions.{all_of}
use Rattle.nesl_seqs_base.specs.Permute.{all_differ, rearranged, permuted}
use Rattle.nesl_seqs_base.specs.Places.{arrival, place_in, place_of, places_of}
use Rattle.nesl_seqs_base.proofs.Equality.{left_true, right_true}
use Rattle.nesl_seqs_index.proofs.Marking.{are_equal, not_true}
use Rattle.nesl_seqs_index.proofs.Picking.{length_found}
use Rattle.nesl_seqs_index.proofs.Permuting.{IsArranged, is_arranged, first_arrival, weights_arrive, weights_one}
use Rattle.nesl_seqs.proofs.Moves.{same_elements}

all_at : {X : Type 0} (p : X → Bool) (xs : List X) (j : ℕ) (x : X) → list_all p xs ≡ true → slice_get xs j ≡ Some x → p x ≡ true
all_at p [] j x h at = absurd (cc at)
all_at p (y ∷ xs) zero x h at =
    let same : y ≡ x = cc at in
    ap p (sym same) ∙ left_true (p y) _ h
all_at p (y ∷ xs) (suc j) x h at = all_at p xs j x (right_true (p y) _ h) at

stands_in : (c : ℕ) (ks : List ℕ) (j : ℕ) → slice_get ks j ≡ Some c → list_any (nat_eq c) ks ≡ true
stands_in c [] j at = absurd (cc at)
stands_in c (k ∷ ks) zero at =
    let same : k ≡ c = cc at in
    ap (λ b. b || list_any (nat_eq c) ks) ((Decides-eqb c k).1 (sym same))
stands_in c (k ∷ ks) (suc j) at = ap (λ b. nat_eq c k || b) (stands_in c ks j at) ∙ or-true (nat_eq c k)

arrives_to : (ks : List ℕ) (ts : List ValueTree) (j k : ℕ) (t : ValueTree) → all_differ ks ≡ true → slice_get ks j ≡ Some k → slice_get ts j ≡ Some t → arrival (zip ks ts) k ≡ Some t
arrives_to [] ts j k t differ at there = absurd (cc at)
arrives_to (c ∷ ks) [] j k t differ at there = absurd (cc there)
arrives_to (c ∷ ks) (u ∷ ts) zero k t differ at there =
    let place : c ≡ k = cc at in
    first_arrival c u (zip ks ts) k ∙ ap (λ b. cond b (Some u) (arrival (zip ks ts) k)) ((Decides-eqb k c).1 (sym place)) ∙ there
arrives_to (c ∷ ks) (u ∷ ts) (suc j) k t differ at there =
    first_arrival c u (zip ks ts) k ∙ by_test (nat_eq k c) refl (not_true (list_any (nat_eq c) ks) (left_true (not (list_any (nat_eq c) ks)) _ differ)) (arrives_to ks ts j k t (right_true (not (list_any (nat_eq c) ks)) _ differ) at there)
  where
    by_test : (b : Bool) → nat_eq k c ≡ b → list_any (nat_eq c) ks ≡ false → arrival (zip ks ts) k ≡ Some t → cond b (Some u) (arrival (zip ks ts) k) ≡ Some t
    by_test true e none rest = absurd (false≢true (sym none ∙ stands_in c ks j (at ∙ ap Some (are_equal k c e))))
    by_test false e none rest = rest

found_at : {X Y : Type 0} (f : X → Option Y) (xs : List X) → length (filter_map f xs) ≡ length xs → (i : ℕ) (x : X) → slice_get xs i ≡ Some x → slice_get (filter_map f xs) i ≡ f x
found_at f [] h i x at = absurd (cc at)
found_at {Y = Y} f (u ∷ xs) h i x at = by_first (f u) refl h i at (λ e k p. found_at f xs e k x p)
  where
    by_first : (o : Option Y) → f u ≡ o → length (cons_option o (filter_map f xs)) ≡ suc (length xs) → (k : ℕ) → slice_get (u ∷ xs) k ≡ Some x → (length (filter_map f xs) ≡ length xs → (m : ℕ) → slice_get xs m ≡ Some x → slice_get (filter_map f xs) m ≡ f x) → slice_get (cons_option o (filter_map f xs)) k ≡ f x
    by_first None e p k q rest = absurd (omega (arith, p, length_found f xs))
    by_first (Some y) e p zero q rest =
        let same : u ≡ x = cc q in
        sym e ∙ ap f same
    by_first (Some y) e p (suc k) q rest = rest (omega (arith, p)) k q

stands_at : (ts : List ValueTree) (ks : List ℕ) (j k : ℕ) (t : ValueTree) → length ks ≡ length ts → list_all (λ i. nat_lt i (length ts)) ks ≡ true → all_differ ks ≡ true → slice_get ks j ≡ Some k → slice_get ts j ≡ Some t → slice_get (rearranged ts ks) k ≡ Some t
stands_at ts ks j k t same below differ at there =
    let n = length ts in
    let all : length (rearranged ts ks) ≡ length (range_with_len 0 (length ts)) = sym (weights_one (rearranged ts ks)) ∙ weights_arrive (λ u. 1) (length ts) ks ts same below differ ∙ weights_one ts ∙ sym (length-range_with_len 0 (length ts)) in
    let within : k < length ts = (Decides-ltb k (length ts)).0 (all_at (λ i. nat_lt i (length ts)) ks j k below at) in
    let place : slice_get (range_with_len 0 (length ts)) k ≡ Some k = slice_get-get_or (range_with_len 0 (length ts)) k 0 (omega (arith, within, length-range_with_len 0 (length ts))) ∙ ap Some (get_or-range_with_len 0 (length ts) k 0 within ∙ omega arith) in
    found_at (arrival (zip ks ts)) (range_with_len 0 (length ts)) all k k place ∙ arrives_to ks ts j k t differ at there

one_found : {X : Type 0} (o : Option X) (xs : List X) (n : ℕ) → is_some o ≡ true → length xs ≡ n → length (cons_option o xs) ≡ suc n
one_found (Some x) xs n h same = ap suc same
one_found None xs n h same = absurd (false≢true h)

all_found : {X Y : Type 0} (f : X → Option Y) (xs : List X) → list_all (λ x. is_some (f x)) xs ≡ true → length (filter_map f xs) ≡ length xs
all_found f [] h = refl
all_found f (x ∷ xs) h = one_found (f x) (filter_map f xs) (length xs) (left_true (is_some (f x)) _ h) (all_found f xs (right_true (is_some (f x)) _ h))

one_below : (o : Option ℕ) (n : ℕ) (ks : List ℕ) → ((k : ℕ) → o ≡ Some k → nat_lt k n ≡ true) → list_all (λ k. nat_lt k n) ks ≡ true → list_all (λ k. nat_lt k n) (cons_option o ks) ≡ true
one_below (Some k) n ks h rest = ap (λ b. b && list_all (λ k. nat_lt k n) ks) (h k refl) ∙ rest
one_below None n ks h rest = rest

place_below : (n : ℕ) (o : Option ℤ) (k : ℕ) → option_and_then (place_in n) o ≡ Some k → nat_lt k n ≡ true
place_below n None k h = absurd (cc h)
place_below n (Some (negsuc i)) k h = absurd (cc h)
place_below n (Some (pos i)) k h = by_test (nat_lt i n) refl h
  where
    by_test : (b : Bool) → nat_lt i n ≡ b → cond b (Some i) None ≡ Some k → nat_lt k n ≡ true
    by_test true e p =
        let same : i ≡ k = cc p in
        sym (ap (λ j. nat_lt j n) same) ∙ e
    by_test false e p = absurd (cc p)

all_below : (n : ℕ) (js : List ValueTree) → list_all (λ k. nat_lt k n) (places_of n js) ≡ true
all_below n [] = refl
all_below n (j ∷ js) = one_below (place_of n j) n (places_of n js) (λ k e. place_below n (as_int j) k e) (all_below n js)

named_place : (n k : ℕ) → is_some (place_in n (pos k)) ≡ true → place_in n (pos k) ≡ Some k
named_place n k h = by_test (nat_lt k n) h
  where
    by_test : (b : Bool) → is_some (cond b (Some k) None) ≡ true → cond b (Some k) None ≡ Some k
    by_test true e = refl
    by_test false e = absurd (false≢true e)

-- each element is where its index says, in what `permute` gives
pub stands_where_told : (ts us vs : List ValueTree) (j k : ℕ) (t : ValueTree) → if_there (all_of as_int us) (permuted ts) ≡ gives (sequence vs) → slice_get us j ≡ Some (int (pos k)) → slice_get ts j ≡ Some t → slice_get vs k ≡ Some t
stands_where_told ts us vs j k t is at there =
    let there_is : IsGiven (if_there (all_of as_int us) (permuted ts)) = subst IsGiven (sym is) tt in
    let a : IsArranged ts us = subst (λ js. IsArranged ts js) (map-id us) (is_arranged (λ u. u) us ts (subst (λ js. IsGiven (if_there (all_of as_int js) (permuted ts))) (sym (map-id us)) there_is)) in
    let same : rearranged ts (places_of (length ts) us) ≡ vs = same_elements _ _ (sym a.is ∙ is) in
    let all : length (places_of (length ts) us) ≡ length us = all_found (place_of (length ts)) us a.named in
    let place : slice_get (places_of (length ts) us) j ≡ Some k = found_at (place_of (length ts)) us all j (int (pos k)) at ∙ named_place (length ts) k (all_at (λ u. is_some (place_of (length ts) u)) us j (int (pos k)) a.named at) in
    ap (λ ws. slice_get ws k) (sym same) ∙ stands_at ts (places_of (length ts) us) j k t (all ∙ a.same) (all_below (length ts) us) a.differ place there
