-- The places of `rotate`, and the steps of a range.
use Rattle.std.proofs.Common.{Some, None, map, ◌≤ℤ◌, ◌≡◌, ◌↔◌, ℕ, zero, suc, ◌+◌, ◌-◌, ◌*◌, ◌/◌, ◌%◌, ◌≤◌, ◌<◌, ℤ, pos, negsuc, ◌+ℤ◌, ◌<ℤ◌, Bool, true, false, List, [], ◌∷◌, ◌++◌, length, take, drop, slice_get, refl, ap, sym, subst, ◌∙◌, arith, nat_lt}
use Rattle.std.specs.Prelude.{unsigned_abs}
use Rattle.std.specs.List.{range_with_len}
use Rattle.std.specs.Int.{int_rem_euclid, int_gap}
use Rattle.std.proofs.Math.Nat.{add-mod-mod, add-mod_right, mod-eq_of_lt, mod-lt, le-div_iff_mul-le}
use Rattle.std.proofs.lemmas.Int.{ints, int_rem_euclid_is}
use Rattle.std.proofs.lemmas.Bool.Decides.{nat_tests}
use Rattle.std.proofs.lemmas.List.{length-append, length-drop, length-take-le}
use Rattle.nesl_values.specs.Tree.{ValueTree, int, sequence, trees_of}
use Rattle.nesl_values.specs.Parts.{list_of}
use Rattle.nesl_seqs_base.specs.Outcome.{gives}
use Rattle.nesl_seqs_base.specs.Pieces.{places_on, rotated}
use Rattle.nesl_seqs_base.specs.Ranges.{steps_below}
use Rattle.nesl_seqs.specs.Laws.{modulo, PlacesOfRotate, NumbersOfRange}
use Rattle.nesl_seqs.proofs.Best.{get_front}

below_gap : (s e : ℤ) (n : ℕ) → (n < int_gap s e) ↔ ((s +ℤ pos n) <ℤ e)
below_gap (pos a) (pos b) n = (λ h. omega (arith, ints), λ h. omega (arith, ints, h))
below_gap (pos a) (negsuc b) n = (λ h. absurd (omega arith), λ h. absurd (omega (arith, ints, h)))
below_gap (negsuc a) (pos b) n = (λ h. omega (arith, ints), λ h. omega (arith, ints, h))
below_gap (negsuc a) (negsuc b) n = (λ h. omega (arith, ints), λ h. omega (arith, ints, h))

steps_within : (gap d j : ℕ) → 1 ≤ d → (j < (gap + (d - 1)) / d) ↔ (j * d < gap)
steps_within gap d j h =
    let both : (j + 1 ≤ (gap + (d - 1)) / d) ↔ ((j + 1) * d ≤ gap + (d - 1)) = le-div_iff_mul-le (omega arith) in
    (λ p. omega (arith, both.0 (omega (arith, p))), λ p. omega (arith, both.1 (omega (arith, p))))

step_is_below : (s e : ℤ) (d j : ℕ) → 1 ≤ d → (j < steps_below s e d) ↔ ((s +ℤ pos (j * d)) <ℤ e)
step_is_below s e d j h =
    let within = steps_within (int_gap s e) d j h in
    let below = below_gap s e (j * d) in
    (λ p. below.0 (within.0 p), λ p. within.1 (below.1 p))

get_number : (f : ℕ → ValueTree) (a n j : ℕ) → j < n → slice_get (map f (range_with_len a n)) j ≡ Some (f (a + j))
get_number f a zero j h = absurd (omega arith)
get_number f a (suc n) zero h = ap (λ k. Some (f k)) (omega arith)
get_number f a (suc n) (suc j) h =
    let next : a + 1 + j ≡ a + suc j = omega arith in
    get_number f (a + 1) n j (omega arith) ∙ ap (λ k. Some (f k)) next

get_no_number : (f : ℕ → ValueTree) (a n j : ℕ) → n ≤ j → slice_get (map f (range_with_len a n)) j ≡ None
get_no_number f a zero j h = refl
get_no_number f a (suc n) zero h = absurd (omega arith)
get_no_number f a (suc n) (suc j) h = get_no_number f (a + 1) n j (omega arith)

pub list_back : (ts : List ValueTree) → list_of (trees_of ts) ≡ ts
list_back [] = refl
list_back (t ∷ ts) = ap (λ us. t ∷ us) (list_back ts)

pub same_elements : (ts us : List ValueTree) → gives (sequence ts) ≡ gives (sequence us) → ts ≡ us
same_elements ts us h =
    let trees : trees_of ts ≡ trees_of us = cc h in
    sym (list_back ts) ∙ ap list_of trees ∙ list_back us

get_in_take : (s j : ℕ) (ts : List ValueTree) → j < s → slice_get (take s ts) j ≡ slice_get ts j
get_in_take zero j ts h = absurd (omega arith)
get_in_take (suc s) j [] h = refl
get_in_take (suc s) zero (t ∷ ts) h = refl
get_in_take (suc s) (suc j) (t ∷ ts) h = get_in_take s j ts (omega arith)

get_in_drop : (s p : ℕ) (ts : List ValueTree) → slice_get (drop s ts) p ≡ slice_get ts (s + p)
get_in_drop zero p ts = ap (slice_get ts) (omega arith)
get_in_drop (suc s) p [] = refl
get_in_drop (suc s) p (t ∷ ts) =
    let next : suc s + p ≡ suc (s + p) = omega arith in
    get_in_drop s p ts ∙ ap (slice_get (t ∷ ts)) (sym next)

get_second : (us vs : List ValueTree) (p : ℕ) → slice_get (us ++ vs) (length us + p) ≡ slice_get vs p
get_second [] vs p = ap (slice_get vs) (omega arith)
get_second (u ∷ us) vs p =
    let next : suc (length us) + p ≡ suc (length us + p) = omega arith in
    ap (slice_get (u ∷ us ++ vs)) next ∙ get_second us vs p

-- element j of what is turned by r places
turned_at : (ts : List ValueTree) (r j : ℕ) → r < length ts → j < length ts → slice_get (drop (length ts - r) ts ++ take (length ts - r) ts) ((j + r) % length ts) ≡ slice_get ts j
turned_at ts r j h k = by (nat_lt (j + r) n) refl
  where
    n : ℕ
    n = length ts

    start : ℕ
    start = n - r

    front : List ValueTree
    front = drop start ts

    size : length front ≡ r
    size = length-drop start ts ∙ omega (arith, h)

    by : (b : Bool) → nat_lt (j + r) n ≡ b → slice_get (front ++ take start ts) ((j + r) % n) ≡ slice_get ts j
    by true e =
        let within : j + r < n = grind (arith, nat_tests) in
        let place : (j + r) % n ≡ length front + j = mod-eq_of_lt within ∙ omega (arith, size) in
        ap (slice_get (front ++ take start ts)) place ∙ get_second front (take start ts) j ∙ get_in_take start j ts (omega (arith, within))
    by false e =
        let beyond : n ≤ j + r = grind (arith, nat_tests) in
        let parts : j + r ≡ (j + r - n) + n = omega (arith, beyond) in
        let place : (j + r) % n ≡ j + r - n = ap (λ m. m % n) parts ∙ add-mod_right (j + r - n) n ∙ mod-eq_of_lt (omega (arith, h, k)) in
        let there : start + (j + r - n) ≡ j = omega (arith, h, beyond) in
        ap (slice_get (front ++ take start ts)) place ∙ get_front front (take start ts) (j + r - n) (omega (arith, size, k, h)) ∙ get_in_drop start (j + r - n) ts ∙ ap (slice_get ts) there

-- k is a number that is not below 0, up to a multiple of n
modulo_of : (k : ℤ) (n m q j : ℕ) → 0 < n → k +ℤ pos (q * n) ≡ pos m → modulo (pos j +ℤ k) n ≡ (j + modulo k n) % n
modulo_of k n m q j h is =
    let first : int_rem_euclid k (pos n) ≡ pos (m % n) = int_rem_euclid_is k (pos n) n q m h refl is in
    let second : int_rem_euclid (pos j +ℤ k) (pos n) ≡ pos ((j + m) % n) = int_rem_euclid_is (pos j +ℤ k) (pos n) n q (j + m) h refl (omega (arith, ints, is)) in
    ap unsigned_abs second ∙ sym (add-mod-mod j m n) ∙ sym (ap (λ z. (j + unsigned_abs z) % n) first)

multiple : (k : ℤ) (n j : ℕ) → 0 < n → modulo (pos j +ℤ k) n ≡ (j + modulo k n) % n
multiple (pos a) n j h = modulo_of (pos a) n a 0 j h (omega (arith, ints))
multiple (negsuc a) zero j h = absurd (omega arith)
multiple (negsuc a) (suc n) j h = modulo_of (negsuc a) (suc n) ((a + 1) * n) (a + 1) j h (omega (arith, ints))

modulo_below : (k : ℤ) (n : ℕ) → 0 < n → modulo k n < n
modulo_below (pos a) n h = mod-lt a h
modulo_below (negsuc a) n h = omega (arith, h)

on_is : (n : ℕ) (k : ℤ) → 0 < n → places_on n k ≡ modulo k n
on_is zero k h = absurd (omega arith)
on_is (suc n) k h = refl

on_within : (n : ℕ) (k : ℤ) → places_on n k ≤ n
on_within zero k = omega arith
on_within (suc n) k = omega (arith, modulo_below k (suc n) (omega arith))

pub places_of_rotate : PlacesOfRotate
places_of_rotate ts us k is = (long, at)
  where
    n : ℕ
    n = length ts

    r : ℕ
    r = places_on n k

    same : drop (n - r) ts ++ take (n - r) ts ≡ us
    same = same_elements _ _ (subst (λ vs. rotated vs k ≡ gives (sequence us)) (list_back ts) is)

    long : length us ≡ n
    long = sym (ap length same) ∙ length-append (drop (n - r) ts) (take (n - r) ts) ∙ omega (arith, length-drop (n - r) ts, length-take-le (n - r) ts (omega arith), on_within n k)

    at : (j : ℕ) → j < n → (modulo (pos j +ℤ k) n < n) × (slice_get us (modulo (pos j +ℤ k) n) ≡ slice_get ts j)
    at j h =
        let some : 0 < n = omega (arith, h) in
        let on : r ≡ modulo k n = on_is n k some in
        let place : modulo (pos j +ℤ k) n ≡ (j + r) % n = multiple k n j some ∙ sym (ap (λ m. (j + m) % n) on) in
        let within : r < n = omega (arith, on, modulo_below k n some) in
        (modulo_below (pos j +ℤ k) n some, ap (slice_get us) place ∙ sym (ap (λ vs. slice_get vs ((j + r) % n)) same) ∙ turned_at ts r j within h)

pub numbers_of_range : NumbersOfRange
numbers_of_range s e zero j us is = absurd (cc is)
numbers_of_range s e (suc d) j us is = (below, beyond)
  where
    f : ℕ → ValueTree
    f i = int (s +ℤ pos (i * suc d))

    n : ℕ
    n = steps_below s e (suc d)

    same : map f (range_with_len 0 n) ≡ us
    same = same_elements _ _ is

    counted : (j < n) ↔ ((s +ℤ pos (j * suc d)) <ℤ e)
    counted = step_is_below s e (suc d) j (omega arith)

    below : (s +ℤ pos (j * suc d)) <ℤ e → slice_get us j ≡ Some (f j)
    below h = sym (ap (λ vs. slice_get vs j) same) ∙ get_number f 0 n j (counted.1 h) ∙ ap (λ i. Some (f i)) (omega arith)

    beyond : e ≤ℤ (s +ℤ pos (j * suc d)) → slice_get us j ≡ None
    beyond h = sym (ap (λ vs. slice_get vs j) same) ∙ get_no_number f 0 n j (over (nat_lt j n) refl)
      where
        over : (b : Bool) → nat_lt j n ≡ b → n ≤ j
        over true e =
            let less : j < n = grind (arith, nat_tests) in
            absurd (omega (arith, ints, h, counted.0 less))
        over false e = grind (arith, nat_tests)
