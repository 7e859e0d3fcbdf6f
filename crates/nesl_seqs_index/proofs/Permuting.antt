-- Elements that go to places of their own.
use Rattle.std.proofs.Common.{◌≡◌, ◌≢◌, ℕ, ℤ, zero, suc, pos, ◌+◌, ◌-◌, ◌<◌, ◌≤◌, Bool, true, false, not, ◌||◌, ◌&&◌, cond, nat_eq, nat_lt, List, [], ◌∷◌, length, map, zip, set, refl, ap, sym, ◌∙◌, arith, Option, Some, None, is_some, option_map, option_and_then, slice_get, Result, Ok, Err, IfOk, subst}
use Rattle.std.specs.List.{list_any, list_all, filter_map, cons_option, find, range_with_len}
use Rattle.std.proofs.lemmas.Bool.{false≢true}
use Rattle.std.proofs.lemmas.Bool.Decides.{Decides-eqb, Decides-ltb}
use Rattle.std.proofs.Math.Bool.{or-true}
use Rattle.std.proofs.lemmas.List.{length-map, map-id}
use Rattle.std.proofs.lemmas.List.FromFn.{length-range_with_len}
use Rattle.std.proofs.lemmas.Option.{slice_get_within, slice_get-map}
use Rattle.nesl_scalars.specs.declared.trap.Trap.{Trap}
use Rattle.nesl_scalars.specs.declared.trap.Trap.TheVariants.{Length, Range, Permutation}
use Rattle.nesl_values.specs.Tree.{ValueTree, int, size, sizes, sequence, trees_of}
use Rattle.nesl_values.specs.Parts.{as_int}
use Rattle.nesl_seqs_base.specs.Outcome.{Outcome, gives, traps, if_there, IsGiven}
use Rattle.nesl_seqs_base.specs.Permute.{all_differ, rearranged, permuted, Inverts}
use Rattle.nesl_seqs_base.specs.Places.{place_in, place_of, places_of, elements_at, at_places, arrival}
use Rattle.nesl_seqs_base.specs.Reductions.{all_of}
use Rattle.nesl_seqs_index.specs.Arriving.{Arrive}
use Rattle.nesl_seqs_base.proofs.Equality.{left_true, right_true}
use Rattle.nesl_seqs_index.proofs.Marking.{are_equal, are_apart, test_apart, not_true}
use Rattle.nesl_seqs_index.proofs.Picking.{IsRefused, not_given, list_all_map, are_ints, given_all, refused, length_found, place_of_within}

-- the weight of trees
abbrev pub weights : (ValueTree → ℕ) → List ValueTree → ℕ
weights w [] = 0
weights w (t ∷ ts) = w t + weights w ts

weights_size : (ts : List ValueTree) → weights size ts ≡ sizes (trees_of ts)
weights_size [] = refl
weights_size (t ∷ ts) = ap (λ n. size t + n) (weights_size ts)

pub weights_one : (ts : List ValueTree) → weights (λ t. 1) ts ≡ length ts
weights_one [] = refl
weights_one (t ∷ ts) = omega (arith, weights_one ts)

found_same : {X Y : Type 0} (f g : X → Option Y) (xs : List X) → ((x : X) → f x ≡ g x) → filter_map f xs ≡ filter_map g xs
found_same f g [] h = refl
found_same f g (x ∷ xs) h = ap (λ o. cons_option o (filter_map f xs)) (h x) ∙ ap (cons_option (g x)) (found_same f g xs h)

abbrev pub arrival_or : ℕ → ValueTree → (ℕ → Option ValueTree) → ℕ → Option ValueTree
arrival_or c t g k = cond (nat_eq k c) (Some t) (g k)

pub first_arrival : (c : ℕ) (t : ValueTree) (ws : List (ℕ × ValueTree)) (k : ℕ) → arrival ((c, t) ∷ ws) k ≡ arrival_or c t (arrival ws) k
first_arrival c t ws k = by_test (nat_eq k c)
  where
    by_test : (b : Bool) → option_map (λ w. w.1) (cond b (Some (c, t)) (find (λ w. nat_eq k w.0) ws)) ≡ cond b (Some t) (arrival ws k)
    by_test true = refl
    by_test false = refl

before_range : (g : ℕ → Option ValueTree) (c : ℕ) (t : ValueTree) (a n : ℕ) → c < a → filter_map (arrival_or c t g) (range_with_len a n) ≡ filter_map g (range_with_len a n)
before_range g c t a zero h = refl
before_range g c t a (suc n) h =
    ap (λ b. cons_option (cond b (Some t) (g a)) (filter_map (arrival_or c t g) (range_with_len (a + 1) n))) (test_apart a c (λ e. absurd (omega (arith, e, h)))) ∙ ap (cons_option (g a)) (before_range g c t (a + 1) n (omega (arith, h)))

weights_more : (w : ValueTree → ℕ) (o : Option ValueTree) (ts us : List ValueTree) (n : ℕ) → weights w ts ≡ n + weights w us → weights w (cons_option o ts) ≡ n + weights w (cons_option o us)
weights_more w None ts us n h = h
weights_more w (Some t) ts us n h = omega (arith, h)

-- one element more weighs as much more
one_arrival : (w : ValueTree → ℕ) (g : ℕ → Option ValueTree) (c : ℕ) (t : ValueTree) (a n : ℕ) → a ≤ c → c < a + n → g c ≡ None → weights w (filter_map (arrival_or c t g) (range_with_len a n)) ≡ w t + weights w (filter_map g (range_with_len a n))
one_arrival w g c t a zero h l none = absurd (omega (arith, h, l))
one_arrival w g c t a (suc n) h l none =
    here w g c t a (filter_map (arrival_or c t g) (range_with_len (a + 1) n)) (filter_map g (range_with_len (a + 1) n)) none (λ e. before_range g c t (a + 1) n (omega (arith, e))) (λ e. one_arrival w g c t (a + 1) n (omega (arith, h, e)) (omega (arith, l)) none)
  where
    here : (w : ValueTree → ℕ) (g : ℕ → Option ValueTree) (c : ℕ) (t : ValueTree) (a : ℕ) (more less : List ValueTree) → g c ≡ None → (a ≡ c → more ≡ less) → (a ≢ c → weights w more ≡ w t + weights w less) → weights w (cons_option (arrival_or c t g a) more) ≡ w t + weights w (cons_option (g a) less)
    here w g c t a more less none same rest = by_test (nat_eq a c) refl
      where
        by_test : (b : Bool) → nat_eq a c ≡ b → weights w (cons_option (cond b (Some t) (g a)) more) ≡ w t + weights w (cons_option (g a) less)
        by_test true e =
            let is : a ≡ c = are_equal a c e in
            ap (λ us. w t + weights w us) (same is) ∙ ap (λ o. w t + weights w (cons_option o less)) (sym (ap g is ∙ none))
        by_test false e = weights_more w (g a) more less (w t) (rest (are_apart a c e))

not_here : (b any : Bool) (t : ValueTree) (o : Option ValueTree) → (any ≡ false → o ≡ None) → (b || any) ≡ false → cond b (Some t) o ≡ None
not_here true any t o rest p = absurd (cc p)
not_here false any t o rest p = rest p

no_arrival : (k : ℕ) (ks : List ℕ) (ts : List ValueTree) → list_any (nat_eq k) ks ≡ false → arrival (zip ks ts) k ≡ None
no_arrival k [] ts h = refl
no_arrival k (c ∷ ks) [] h = refl
no_arrival k (c ∷ ks) (t ∷ ts) h = first_arrival c t (zip ks ts) k ∙ not_here (nat_eq k c) (list_any (nat_eq k) ks) t (arrival (zip ks ts) k) (λ p. no_arrival k ks ts p) h

none_arrive : (xs : List ℕ) → filter_map (arrival []) xs ≡ []
none_arrive [] = refl
none_arrive (x ∷ xs) = none_arrive xs

-- all arrive
pub weights_arrive : (w : ValueTree → ℕ) (m : ℕ) (ks : List ℕ) (ts : List ValueTree) → length ks ≡ length ts → list_all (λ k. nat_lt k m) ks ≡ true → all_differ ks ≡ true → weights w (filter_map (arrival (zip ks ts)) (range_with_len 0 m)) ≡ weights w ts
weights_arrive w m [] [] h below differ = ap (weights w) (none_arrive (range_with_len 0 m))
weights_arrive w m [] (t ∷ ts) h below differ = absurd (omega (arith, h))
weights_arrive w m (k ∷ ks) [] h below differ = absurd (omega (arith, h))
weights_arrive w m (k ∷ ks) (t ∷ ts) h below differ =
    let none : list_any (nat_eq k) ks ≡ false = not_true (list_any (nat_eq k) ks) (left_true (not (list_any (nat_eq k) ks)) _ differ) in
    let within : k < m = (Decides-ltb k m).0 (left_true (nat_lt k m) _ below) in
    ap (weights w) (found_same (arrival ((k, t) ∷ zip ks ts)) (arrival_or k t (arrival (zip ks ts))) (range_with_len 0 m) (first_arrival k t (zip ks ts)))
    ∙ one_arrival w (arrival (zip ks ts)) k t 0 m (omega arith) (omega (arith, within)) (no_arrival k ks ts none)
    ∙ ap (λ n. w t + n) (weights_arrive w m ks ts (omega (arith, h)) (right_true (nat_lt k m) _ below) (right_true (not (list_any (nat_eq k) ks)) _ differ))

-- the places that are named
pub below_len : (n : ℕ) (ts : List ValueTree) → list_all (λ k. nat_lt k n) (places_of n ts) ≡ true
below_len n [] = refl
below_len n (t ∷ ts) = one_more (place_of n t) (places_of n ts) (λ k e. place_of_within n t k e) (below_len n ts) refl
  where
    one_more : (o : Option ℕ) (ks : List ℕ) → ((k : ℕ) → place_of n t ≡ Some k → k < n) → list_all (λ k. nat_lt k n) ks ≡ true → place_of n t ≡ o → list_all (λ k. nat_lt k n) (cons_option o ks) ≡ true
    one_more None ks le h e = h
    one_more (Some k) ks le h e = ap (λ b. b && list_all (λ k. nat_lt k n) ks) ((Decides-ltb k n).1 (le k e)) ∙ h

abbrev pub AllName : ℕ → List ValueTree → Type 0
AllName n js = list_all (λ j. is_some (place_of n j)) js ≡ true

pub length_named : (n : ℕ) (js : List ValueTree) → AllName n js → length (places_of n js) ≡ length js
length_named n [] h = refl
length_named n (j ∷ js) h = one_more (place_of n j) (places_of n js) (length js) (left_true (is_some (place_of n j)) _ h) (length_named n js (right_true (is_some (place_of n j)) _ h))
  where
    one_more : (o : Option ℕ) (ks : List ℕ) (m : ℕ) → is_some o ≡ true → length ks ≡ m → length (cons_option o ks) ≡ suc m
    one_more None ks m p e = absurd (cc p)
    one_more (Some k) ks m p e = ap suc e

weights_rearranged : (w : ValueTree → ℕ) (ts js : List ValueTree) → length js ≡ length ts → AllName (length ts) js → all_differ (places_of (length ts) js) ≡ true → weights w (rearranged ts (places_of (length ts) js)) ≡ weights w ts
weights_rearranged w ts js same named differ =
    weights_arrive w (length ts) (places_of (length ts) js) ts (length_named (length ts) js named ∙ same) (below_len (length ts) js) differ

pub size_rearranged : (ts js : List ValueTree) → length js ≡ length ts → AllName (length ts) js → all_differ (places_of (length ts) js) ≡ true → size (sequence (rearranged ts (places_of (length ts) js))) ≡ size (sequence ts)
size_rearranged ts js same named differ =
    ap (λ n. 1 + n) (sym (weights_size (rearranged ts (places_of (length ts) js))) ∙ weights_rearranged size ts js same named differ ∙ weights_size ts)

length_rearranged : (ts js : List ValueTree) → length js ≡ length ts → AllName (length ts) js → all_differ (places_of (length ts) js) ≡ true → length (rearranged ts (places_of (length ts) js)) ≡ length ts
length_rearranged ts js same named differ =
    sym (weights_one (rearranged ts (places_of (length ts) js))) ∙ weights_rearranged (λ t. 1) ts js same named differ ∙ weights_one ts

-- where as many are found as were looked for, each is found
all_found : {X Y : Type 0} (f : X → Option Y) (xs : List X) → length (filter_map f xs) ≡ length xs → (i : ℕ) (x : X) → slice_get xs i ≡ Some x → (y : Y) × (f x ≡ Some y)
all_found f [] h i x at = absurd (cc at)
all_found {Y = Y} f (u ∷ xs) h i x at = by_first (f u) refl h i at (λ e k p. all_found f xs e k x p)
  where
    by_first : (o : Option Y) → f u ≡ o → length (cons_option o (filter_map f xs)) ≡ suc (length xs) → (k : ℕ) → slice_get (u ∷ xs) k ≡ Some x → (length (filter_map f xs) ≡ length xs → (m : ℕ) → slice_get xs m ≡ Some x → (y : Y) × (f x ≡ Some y)) → (y : Y) × (f x ≡ Some y)
    by_first None e p k q rest = absurd (omega (arith, p, length_found f xs))
    by_first (Some y) e p zero q rest =
        let same : u ≡ x = cc q in
        (y, ap f (sym same) ∙ e)
    by_first (Some y) e p (suc k) q rest = rest (omega (arith, p)) k q

-- what arrives was sent
arrives_from : (n : ℕ) (js ts : List ValueTree) (k : ℕ) (u : ValueTree) → AllName n js → length js ≡ length ts → arrival (zip (places_of n js) ts) k ≡ Some u → (i : ℕ) × (x : ValueTree) × (slice_get js i ≡ Some x) × (place_of n x ≡ Some k) × (slice_get ts i ≡ Some u)
arrives_from n [] ts k u named same h = absurd (cc h)
arrives_from n (j ∷ js) [] k u named same h = absurd (omega (arith, same))
arrives_from n (j ∷ js) (t ∷ ts) k u named same h =
    by_place (place_of n j) refl (left_true (is_some (place_of n j)) _ named) h (λ e. arrives_from n js ts k u (right_true (is_some (place_of n j)) _ named) (omega (arith, same)) e)
  where
    Sent : List ValueTree → List ValueTree → Type 0
    Sent vs us = (i : ℕ) × (x : ValueTree) × (slice_get vs i ≡ Some x) × (place_of n x ≡ Some k) × (slice_get us i ≡ Some u)

    by_test : (c : ℕ) → place_of n j ≡ Some c → (b : Bool) → nat_eq k c ≡ b → cond b (Some t) (arrival (zip (places_of n js) ts) k) ≡ Some u → (arrival (zip (places_of n js) ts) k ≡ Some u → Sent js ts) → Sent (j ∷ js) (t ∷ ts)
    by_test c e true p q rest =
        let is : u ≡ t = cc q in
        (0, j, refl, e ∙ ap Some (sym (are_equal k c p)), ap Some (sym is))
    by_test c e false p q rest =
        let far = rest q in
        (suc far.0, far.1, far.2, far.3, far.4)

    by_place : (o : Option ℕ) → place_of n j ≡ o → is_some o ≡ true → arrival (zip (cons_option o (places_of n js)) (t ∷ ts)) k ≡ Some u → (arrival (zip (places_of n js) ts) k ≡ Some u → Sent js ts) → Sent (j ∷ js) (t ∷ ts)
    by_place None e p q rest = absurd (cc p)
    by_place (Some c) e p q rest = by_test c e (nat_eq k c) refl (sym (first_arrival c t (zip (places_of n js) ts) k) ∙ q) rest

two_steps : (ts : List ValueTree) (n : ℕ) (zs : List ℤ) → elements_at ts (places_of n (map int zs)) ≡ filter_map (λ z. option_and_then (slice_get ts) (place_in n z)) zs
two_steps ts n [] = refl
two_steps ts n (z ∷ zs) = one_more (place_in n z) (places_of n (map int zs)) (filter_map (λ y. option_and_then (slice_get ts) (place_in n y)) zs) (two_steps ts n zs)
  where
    one_more : (o : Option ℕ) (ks : List ℕ) (us : List ValueTree) → elements_at ts ks ≡ us → elements_at ts (cons_option o ks) ≡ cons_option (option_and_then (slice_get ts) o) us
    one_more None ks us h = h
    one_more (Some k) ks us h = ap (cons_option (slice_get ts k)) h

found_alike : {X Y Z : Type 0} (f : X → Option Z) (g : Y → Option Z) (xs : List X) (ys : List Y) → length xs ≡ length ys → ((i : ℕ) (x : X) (y : Y) → slice_get xs i ≡ Some x → slice_get ys i ≡ Some y → f x ≡ g y) → filter_map f xs ≡ filter_map g ys
found_alike f g [] [] h same = refl
found_alike f g [] (y ∷ ys) h same = absurd (omega (arith, h))
found_alike f g (x ∷ xs) [] h same = absurd (omega (arith, h))
found_alike f g (x ∷ xs) (y ∷ ys) h same =
    ap (λ o. cons_option o (filter_map f xs)) (same 0 x y refl refl) ∙ ap (cons_option (g y)) (found_alike f g xs ys (omega (arith, h)) (λ i u v p q. same (suc i) u v p q))

range_at : (a n i k : ℕ) → slice_get (range_with_len a n) i ≡ Some k → k ≡ a + i
range_at a zero i k h = absurd (cc h)
range_at a (suc n) zero k h =
    let is : a ≡ k = cc h in
    omega (arith, is)
range_at a (suc n) (suc i) k h = omega (arith, range_at (a + 1) n i k h)

place_in_pos : (n i : ℕ) → i < n → place_in n (pos i) ≡ Some i
place_in_pos n i h = ap (λ b. cond b (Some i) None) ((Decides-ltb i n).1 h)

-- so the elements at the places whence they come are the elements where they go to
pub inverse_picks : (ts js : List ValueTree) (zs : List ℤ) → length js ≡ length ts → AllName (length ts) js → all_differ (places_of (length ts) js) ≡ true → Inverts zs js
    → elements_at ts (places_of (length ts) (map int zs)) ≡ rearranged ts (places_of (length ts) js)
inverse_picks ts js zs same named differ inverts =
    two_steps ts (length ts) zs ∙ found_alike (λ z. option_and_then (slice_get ts) (place_in (length ts) z)) (arrival (zip (places_of (length ts) js) ts)) zs (range_with_len 0 (length ts)) (inverts.0 ∙ same ∙ sym (length-range_with_len 0 (length ts))) (λ i z k p q. at_place i z k p q)
  where
    at_place : (i : ℕ) (z : ℤ) (k : ℕ) → slice_get zs i ≡ Some z → slice_get (range_with_len 0 (length ts)) i ≡ Some k → option_and_then (slice_get ts) (place_in (length ts) z) ≡ arrival (zip (places_of (length ts) js) ts) k
    at_place i z k p q =
        let is : k ≡ i = omega (arith, range_at 0 (length ts) i k q) in
        let found = all_found (arrival (zip (places_of (length ts) js) ts)) (range_with_len 0 (length ts)) (length_rearranged ts js same named differ ∙ sym (length-range_with_len 0 (length ts))) i k q in
        let from = arrives_from (length ts) js ts k found.0 named same found.1 in
        let whence : slice_get zs k ≡ Some (pos from.0) = inverts.1 from.0 k from.1 from.2 (ap (λ m. place_of m from.1) same ∙ from.3) in
        let number : Some z ≡ Some (pos from.0) = sym p ∙ ap (slice_get zs) (sym is) ∙ whence in
        let same_number : z ≡ pos from.0 = cc number in
        ap (λ y. option_and_then (slice_get ts) (place_in (length ts) y)) same_number ∙ ap (option_and_then (slice_get ts)) (place_in_pos (length ts) from.0 (slice_get_within ts from.0 found.0 from.4)) ∙ from.4 ∙ sym found.1

-- what indices become
abbrev arranged : List ValueTree → List ℕ → Outcome
arranged ts ks = cond (all_differ ks) (gives (sequence (rearranged ts ks))) (traps Permutation)

by_places : {I : Type 0} (f : I → ValueTree) (is : List I) (ts : List ValueTree) → length ts ≡ length is → if_there (all_of as_int (map f is)) (permuted ts) ≡ if_there (all_of as_int (map f is)) (λ zs. at_places (length ts) zs (arranged ts))
by_places f is ts same = by_ints (all_of as_int (map f is)) refl
  where
    by_ints : (o : Option (List ℤ)) → all_of as_int (map f is) ≡ o → if_there o (permuted ts) ≡ if_there o (λ zs. at_places (length ts) zs (arranged ts))
    by_ints None e = refl
    by_ints (Some zs) e =
        let even : length ts ≡ length zs = same ∙ sym (length-map is f) ∙ ap length (are_ints (map f is) zs e) ∙ length-map zs int in
        ap (λ b. cond b (at_places (length ts) zs (arranged ts)) (traps Length)) ((Decides-eqb (length ts) (length zs)).1 even)

pub refused_uneven : {I : Type 0} (f : I → ValueTree) (is : List I) (ts : List ValueTree) → length ts ≢ length is → IsRefused (if_there (all_of as_int (map f is)) (permuted ts)) Length
refused_uneven f is ts uneven = by_ints (all_of as_int (map f is)) refl
  where
    by_ints : (o : Option (List ℤ)) → all_of as_int (map f is) ≡ o → IsRefused (if_there o (permuted ts)) Length
    by_ints None e = tt
    by_ints (Some zs) e =
        let many : length zs ≡ length is = sym (length-map zs int) ∙ ap length (sym (are_ints (map f is) zs e)) ∙ length-map is f in
        let apart : nat_eq (length ts) (length zs) ≡ false = test_apart (length ts) (length zs) (λ same. uneven (same ∙ many)) in
        rw apart refl

pub refused_beyond : {I : Type 0} (f : I → ValueTree) (is : List I) (ts : List ValueTree) → length ts ≡ length is → list_all (λ i. is_some (place_of (length ts) (f i))) is ≡ false
    → IsRefused (if_there (all_of as_int (map f is)) (permuted ts)) Range
refused_beyond f is ts same named = rw (by_places f is ts same) (refused (length ts) f is (arranged ts) named)

arranged_is : {I : Type 0} (f : I → ValueTree) (is : List I) (ts : List ValueTree) → length ts ≡ length is → list_all (λ i. is_some (place_of (length ts) (f i))) is ≡ true → if_there (all_of as_int (map f is)) (permuted ts) ≡ arranged ts (places_of (length ts) (map f is))
arranged_is f is ts same named = by_places f is ts same ∙ given_all (length ts) f is (arranged ts) named

pub refused_twice : {I : Type 0} (f : I → ValueTree) (is : List I) (ts : List ValueTree) → length ts ≡ length is → list_all (λ i. is_some (place_of (length ts) (f i))) is ≡ true → all_differ (places_of (length ts) (map f is)) ≡ false
    → IsRefused (if_there (all_of as_int (map f is)) (permuted ts)) Permutation
refused_twice f is ts same named twice =
    let refuses : if_there (all_of as_int (map f is)) (permuted ts) ≡ traps Permutation = arranged_is f is ts same named ∙ ap (λ b. cond b (gives (sequence (rearranged ts (places_of (length ts) (map f is))))) (traps Permutation)) twice in
    rw refuses refl

pub arranged_given : {I : Type 0} (f : I → ValueTree) (is : List I) (ts : List ValueTree) → length ts ≡ length is → list_all (λ i. is_some (place_of (length ts) (f i))) is ≡ true → all_differ (places_of (length ts) (map f is)) ≡ true
    → if_there (all_of as_int (map f is)) (permuted ts) ≡ gives (sequence (rearranged ts (places_of (length ts) (map f is))))
arranged_given f is ts same named differ =
    arranged_is f is ts same named ∙ ap (λ b. cond b (gives (sequence (rearranged ts (places_of (length ts) (map f is))))) (traps Permutation)) differ

-- indices that give a result
pub record IsArranged (ts js : List ValueTree) : Type 0 where
  pub same : length js ≡ length ts
  pub named : AllName (length ts) js
  pub differ : all_differ (places_of (length ts) js) ≡ true
  pub is : if_there (all_of as_int js) (permuted ts) ≡ gives (sequence (rearranged ts (places_of (length ts) js)))

-- the indices are refused, or each element has a place of its own
pub by_outcome : {I : Type 0} (f : I → ValueTree) (is : List I) (ts : List ValueTree) (P : Outcome → Type 0) → ((o : Outcome) (e : Trap) → IsRefused o e → P o) → (IsArranged ts (map f is) → P (if_there (all_of as_int (map f is)) (permuted ts)))
    → P (if_there (all_of as_int (map f is)) (permuted ts))
by_outcome f is ts P refusal result = by_len (nat_eq (length ts) (length is)) refl
  where
    by_differ : length ts ≡ length is → list_all (λ i. is_some (place_of (length ts) (f i))) is ≡ true → (b : Bool) → all_differ (places_of (length ts) (map f is)) ≡ b → P (if_there (all_of as_int (map f is)) (permuted ts))
    by_differ same named true e =
        result (record { same = length-map is f ∙ sym same; named = list_all_map (λ t. is_some (place_of (length ts) t)) f is ∙ named; differ = e; is = arranged_is f is ts same named ∙ ap (λ b. cond b (gives (sequence (rearranged ts (places_of (length ts) (map f is))))) (traps Permutation)) e })
    by_differ same named false e = refusal _ Permutation (refused_twice f is ts same named e)

    by_names : length ts ≡ length is → (b : Bool) → list_all (λ i. is_some (place_of (length ts) (f i))) is ≡ b → P (if_there (all_of as_int (map f is)) (permuted ts))
    by_names same true e = by_differ same e (all_differ (places_of (length ts) (map f is))) refl
    by_names same false e = refusal _ Range (refused_beyond f is ts same e)

    by_len : (b : Bool) → nat_eq (length ts) (length is) ≡ b → P (if_there (all_of as_int (map f is)) (permuted ts))
    by_len true e = by_names (are_equal (length ts) (length is) e) (list_all (λ i. is_some (place_of (length ts) (f i))) is) refl
    by_len false e = refusal _ Length (refused_uneven f is ts (are_apart (length ts) (length is) e))

pub is_arranged : {I : Type 0} (f : I → ValueTree) (is : List I) (ts : List ValueTree) → IsGiven (if_there (all_of as_int (map f is)) (permuted ts)) → IsArranged ts (map f is)
is_arranged f is ts there = by_outcome f is ts (λ o. IsGiven o → IsArranged ts (map f is)) (λ o e p q. absurd (not_given o e q p)) (λ a q. a) there

pub is_arranged_trees : (us ts : List ValueTree) → IsGiven (if_there (all_of as_int us) (permuted ts)) → IsArranged ts us
is_arranged_trees us ts = subst (λ js. IsGiven (if_there (all_of as_int js) (permuted ts)) → IsArranged ts js) (map-id us) (is_arranged (λ t. t) us ts)

-- the turns of the loop that turns the indices round
set_same : {X : Type 0} (xs : List X) (k : ℕ) (x : X) → k < length xs → slice_get (set xs k x) k ≡ Some x
set_same [] k x h = absurd (omega (arith, h))
set_same (y ∷ xs) zero x h = refl
set_same (y ∷ xs) (suc k) x h = set_same xs k x (omega (arith, h))

set_other : {X : Type 0} (xs : List X) (k i : ℕ) (x : X) → i ≢ k → slice_get (set xs k x) i ≡ slice_get xs i
set_other [] k i x h = refl
set_other (y ∷ xs) zero zero x h = absurd (h refl)
set_other (y ∷ xs) zero (suc i) x h = refl
set_other (y ∷ xs) (suc k) zero x h = refl
set_other (y ∷ xs) (suc k) (suc i) x h = set_other xs k i x (λ e. h (ap suc e))

named_later : (n : ℕ) (js : List ValueTree) (j : ℕ) (y : ValueTree) (k : ℕ) → slice_get js j ≡ Some y → place_of n y ≡ Some k → list_any (nat_eq k) (places_of n js) ≡ true
named_later n [] j y k at names = absurd (cc at)
named_later n (x ∷ js) zero y k at names =
    let same : x ≡ y = cc at in
    ap (λ o. list_any (nat_eq k) (cons_option o (places_of n js))) (ap (place_of n) same ∙ names) ∙ ap (λ b. b || list_any (nat_eq k) (places_of n js)) ((Decides-eqb k k).1 refl)
named_later n (x ∷ js) (suc j) y k at names = one_more (place_of n x) (places_of n js) (named_later n js j y k at names)
  where
    one_more : (o : Option ℕ) (ks : List ℕ) → list_any (nat_eq k) ks ≡ true → list_any (nat_eq k) (cons_option o ks) ≡ true
    one_more None ks h = h
    one_more (Some c) ks h = ap (λ b. nat_eq k c || b) h ∙ or-true (nat_eq k c)

differ_apart : (n : ℕ) (js : List ValueTree) (i j : ℕ) (x y : ValueTree) (k : ℕ) → all_differ (places_of n js) ≡ true → i < j → slice_get js i ≡ Some x → slice_get js j ≡ Some y → place_of n x ≡ Some k → place_of n y ≡ Some k → ⊥
differ_apart n [] i j x y k differ h at later p q = absurd (cc at)
differ_apart n (u ∷ js) i zero x y k differ h at later p q = omega (arith, h)
differ_apart n (u ∷ js) zero (suc j) x y k differ h at later p q =
    let same : u ≡ x = cc at in
    let names : place_of n u ≡ Some k = ap (place_of n) same ∙ p in
    let all : all_differ (k ∷ places_of n js) ≡ true = ap (λ o. all_differ (cons_option o (places_of n js))) (sym names) ∙ differ in
    false≢true (sym (not_true (list_any (nat_eq k) (places_of n js)) (left_true (not (list_any (nat_eq k) (places_of n js))) _ all)) ∙ named_later n js j y k later q)
differ_apart n (u ∷ js) (suc i) (suc j) x y k differ h at later p q = differ_apart n js i j x y k (rest_differs (place_of n u) (places_of n js) differ) (omega (arith, h)) at later p q
  where
    rest_differs : (o : Option ℕ) (ks : List ℕ) → all_differ (cons_option o ks) ≡ true → all_differ ks ≡ true
    rest_differs None ks e = e
    rest_differs (Some c) ks e = right_true (not (list_any (nat_eq c) ks)) _ e

abbrev pub InvertsTo : ℕ → List ℤ → List ValueTree → Type 0
InvertsTo j zs js = (i k : ℕ) (t : ValueTree) → i < j → slice_get js i ≡ Some t → place_of (length js) t ≡ Some k → slice_get zs k ≡ Some (pos i)

pub inverse_turn : (js : List ValueTree) (zs : List ℤ) (j : ℕ) (t : ValueTree) (place : ℕ) → all_differ (places_of (length js) js) ≡ true → length zs ≡ length js → slice_get js j ≡ Some t → place_of (length js) t ≡ Some place → InvertsTo j zs js → InvertsTo (j + 1) (set zs place (pos j)) js
inverse_turn js zs j t place differ same at names before i k u h there place_is = by_test (nat_eq i j) refl
  where
    by_test : (b : Bool) → nat_eq i j ≡ b → slice_get (set zs place (pos j)) k ≡ Some (pos i)
    by_test true e =
        let now : i ≡ j = are_equal i j e in
        let one : Some u ≡ Some t = sym there ∙ ap (slice_get js) now ∙ at in
        let same_tree : u ≡ t = cc one in
        let places : Some k ≡ Some place = sym place_is ∙ ap (place_of (length js)) same_tree ∙ names in
        let same_place : k ≡ place = cc places in
        ap (slice_get (set zs place (pos j))) same_place ∙ set_same zs place (pos j) (omega (arith, same, place_of_within (length js) t place names)) ∙ ap (λ m. Some (pos m)) (sym now)
    by_test false e =
        let early : i < j = omega (arith, h, are_apart i j e) in
        let apart : k ≢ place = λ same_place. differ_apart (length js) js i j u t k differ early there at place_is (names ∙ ap Some (sym same_place)) in
        set_other zs place k (pos j) apart ∙ before i k u early there place_is

pub inverse_same : (js : List ValueTree) (zs : List ℤ) (j : ℕ) (t : ValueTree) → slice_get js j ≡ Some t → place_of (length js) t ≡ None → InvertsTo j zs js → InvertsTo (j + 1) zs js
inverse_same js zs j t at names before i k u h there place_is = by_test (nat_eq i j) refl
  where
    by_test : (b : Bool) → nat_eq i j ≡ b → slice_get zs k ≡ Some (pos i)
    by_test true e =
        let one : Some u ≡ Some t = sym there ∙ ap (slice_get js) (are_equal i j e) ∙ at in
        let same_tree : u ≡ t = cc one in
        let none : Some k ≡ None = sym place_is ∙ ap (place_of (length js)) same_tree ∙ names in
        absurd (cc none)
    by_test false e = before i k u (omega (arith, h, are_apart i j e)) there place_is

-- the turns of the loop that puts each element at its place
abbrev pub ArriveTo : {X : Type 0} → ℕ → List X → List X → List ValueTree → Type 0
ArriveTo j xs vs js = (i k : ℕ) (t : ValueTree) → i < j → slice_get js i ≡ Some t → place_of (length js) t ≡ Some k → slice_get vs k ≡ slice_get xs i

pub arrive_turn : {X : Type 0} (js : List ValueTree) (xs vs : List X) (j : ℕ) (t : ValueTree) (place : ℕ) (x : X) → all_differ (places_of (length js) js) ≡ true → length vs ≡ length js → slice_get js j ≡ Some t → place_of (length js) t ≡ Some place
    → slice_get xs j ≡ Some x → ArriveTo j xs vs js → ArriveTo (j + 1) xs (set vs place x) js
arrive_turn js xs vs j t place x differ same at names here before i k u h there place_is = by_test (nat_eq i j) refl
  where
    by_test : (b : Bool) → nat_eq i j ≡ b → slice_get (set vs place x) k ≡ slice_get xs i
    by_test true e =
        let now : i ≡ j = are_equal i j e in
        let one : Some u ≡ Some t = sym there ∙ ap (slice_get js) now ∙ at in
        let same_tree : u ≡ t = cc one in
        let places : Some k ≡ Some place = sym place_is ∙ ap (place_of (length js)) same_tree ∙ names in
        let same_place : k ≡ place = cc places in
        ap (slice_get (set vs place x)) same_place ∙ set_same vs place x (omega (arith, same, place_of_within (length js) t place names)) ∙ sym here ∙ ap (slice_get xs) (sym now)
    by_test false e =
        let early : i < j = omega (arith, h, are_apart i j e) in
        let apart : k ≢ place = λ same_place. differ_apart (length js) js i j u t k differ early there at place_is (names ∙ ap Some (sym same_place)) in
        set_other vs place k x apart ∙ before i k u early there place_is

pub arrive_same : {X : Type 0} (js : List ValueTree) (xs vs : List X) (j : ℕ) (t : ValueTree) → slice_get js j ≡ Some t → place_of (length js) t ≡ None → ArriveTo j xs vs js → ArriveTo (j + 1) xs vs js
arrive_same js xs vs j t at names before i k u h there place_is = by_test (nat_eq i j) refl
  where
    by_test : (b : Bool) → nat_eq i j ≡ b → slice_get vs k ≡ slice_get xs i
    by_test true e =
        let one : Some u ≡ Some t = sym there ∙ ap (slice_get js) (are_equal i j e) ∙ at in
        let same_tree : u ≡ t = cc one in
        let none : Some k ≡ None = sym place_is ∙ ap (place_of (length js)) same_tree ∙ names in
        absurd (cc none)
    by_test false e = before i k u (omega (arith, h, are_apart i j e)) there place_is

all_there : {X Y : Type 0} (f : X → Y) (xs : List X) → filter_map (λ x. Some (f x)) xs ≡ map f xs
all_there f [] = refl
all_there f (x ∷ xs) = ap (λ ys. f x ∷ ys) (all_there f xs)

-- so the elements are where the definition has them
pub arrived : {X : Type 0} (f : X → ValueTree) (xs vs : List X) (js : List ValueTree) → length js ≡ length (map f xs) → AllName (length (map f xs)) js → all_differ (places_of (length (map f xs)) js) ≡ true → Arrive xs vs js
    → map f vs ≡ rearranged (map f xs) (places_of (length (map f xs)) js)
arrived {X = X} f xs vs js same named differ arrive =
    sym (all_there f vs) ∙ found_alike (λ v. Some (f v)) (arrival (zip (places_of (length ts) js) ts)) vs (range_with_len 0 (length ts)) (arrive.0 ∙ same ∙ sym (length-range_with_len 0 (length ts))) (λ i v k p q. at_place i v k p q)
  where
    ts : List ValueTree
    ts = map f xs

    at_place : (i : ℕ) (v : X) (k : ℕ) → slice_get vs i ≡ Some v → slice_get (range_with_len 0 (length ts)) i ≡ Some k → Some (f v) ≡ arrival (zip (places_of (length ts) js) ts) k
    at_place i v k p q =
        let is : k ≡ i = omega (arith, range_at 0 (length ts) i k q) in
        let found = all_found (arrival (zip (places_of (length ts) js) ts)) (range_with_len 0 (length ts)) (length_rearranged ts js same named differ ∙ sym (length-range_with_len 0 (length ts))) i k q in
        let from = arrives_from (length ts) js ts k found.0 named same found.1 in
        let whence : slice_get vs k ≡ slice_get xs from.0 = arrive.1 from.0 k from.1 from.2 (ap (λ m. place_of m from.1) same ∙ from.3) in
        ap (option_map f) (sym p ∙ ap (slice_get vs) (sym is) ∙ whence) ∙ sym (slice_get-map f xs from.0) ∙ from.4 ∙ sym found.1

-- what holds of a result, where it follows from what holds of it
pub ok_told : {A E : Type 0} (P Q : A → Type 0) (r : Result A E) → IfOk r P → ((a : A) → P a → Q a) → IfOk r Q
ok_told P Q (Ok a) h next = next a h
ok_told P Q (Err e) h next = tt
