-- Marks in a table that has one for each place.
use Rattle.std.proofs.Common.{◌≡◌, ℕ, ◌+◌, ◌<◌, ◌≤◌, Bool, true, false, not, ◌||◌, ◌&&◌, cond, nat_eq, nat_lt, List, [], ◌∷◌, ◌++◌, length, map, take, drop, get_or, set, replicate, refl, ap, sym, subst, ◌∙◌, arith, append_assoc, None, is_some, Result, Ok, Err}
use Rattle.std.specs.List.{list_any, list_all, count_by}
use Rattle.std.proofs.lemmas.Bool.Decides.{Decides-ltb}
use Rattle.std.proofs.lemmas.List.{append-nil, length-map, length-replicate, length-set, get_or-replicate, get_or-set_same, get_or-set_other, drop_all, take_all}
use Rattle.std.proofs.lemmas.List.Folds.{list_all_at, sum_by-replicate}
use Rattle.std.proofs.lemmas.List.Sums.{sum_by-set, sum_by-cons, count_by-le-length}
use Rattle.nesl_scalars.specs.declared.trap.Trap.{Trap}
use Rattle.nesl_scalars.specs.declared.trap.Trap.TheVariants.{Range, Permutation}
use Rattle.nesl_values.specs.Tree.{ValueTree}
use Rattle.nesl_values.specs.Parts.{as_int}
use Rattle.nesl_seqs_base.specs.Outcome.{if_there}
use Rattle.nesl_seqs_base.specs.Permute.{all_differ, permuted}
use Rattle.nesl_seqs_base.specs.Places.{place_of, places_of}
use Rattle.nesl_seqs_base.specs.Reductions.{all_of}
use Rattle.nesl_seqs_base.proofs.Equality.{left_true, right_true, both_true}
use Rattle.nesl_seqs_index.specs.Marks.{own_places}
use Rattle.nesl_seqs_index.proofs.Differing.{seen_more, differ_split, differ_more}
use Rattle.nesl_seqs_index.proofs.Marking.{are_equal, are_apart, or_false, not_true}
use Rattle.nesl_seqs_index.proofs.Permuting.{below_len, length_named, refused_beyond, refused_twice}
use Rattle.nesl_seqs_index.proofs.Picking.{IsRefused, list_all_map}

-- the marks, once these places are marked too
abbrev pub marked : List Bool → List ℕ → List Bool
marked ms [] = ms
marked ms (k ∷ ks) = marked (set ms k true) ks

-- how many are marked
abbrev count : List Bool → ℕ
count ms = count_by (λ m. m) ms

-- whether each of these places is unmarked, when it is its turn
abbrev fresh : List Bool → List ℕ → Bool
fresh ms [] = true
fresh ms (k ∷ ks) = not (get_or ms k false) && fresh (set ms k true) ks

-- one mark more, where there was none
count_set : (ms : List Bool) (k : ℕ) (b : Bool) → k < length ms → get_or ms k false ≡ b → count (set ms k true) + cond b 1 0 ≡ count ms + 1
count_set ms k b h is = ap (λ c. count (set ms k true) + cond c 1 0) (sym is) ∙ sum_by-set (λ m. cond m 1 0) ms k true false h

abbrev Within : ℕ → List ℕ → Type 0
Within n ks = list_all (λ k. nat_lt k n) ks ≡ true

first_within : (n k : ℕ) (ks : List ℕ) → Within n (k ∷ ks) → k < n
first_within n k ks h = (Decides-ltb k n).0 (left_true (nat_lt k n) _ h)

rest_within : (n k : ℕ) (ks : List ℕ) → Within n (k ∷ ks) → Within n ks
rest_within n k ks h = right_true (nat_lt k n) _ h

-- each place marks one at most
count_most : (n : ℕ) (ms : List Bool) (ks : List ℕ) → length ms ≡ n → Within n ks → count (marked ms ks) ≤ count ms + length ks
count_most n ms [] len h = omega arith
count_most n ms (k ∷ ks) len h =
    omega (arith, count_set ms k (get_or ms k false) (omega (arith, first_within n k ks h, len)) refl, count_most n (set ms k true) ks (length-set ms k true ∙ len) (rest_within n k ks h))

-- and just one where it is unmarked
count_fresh : (n : ℕ) (ms : List Bool) (ks : List ℕ) → length ms ≡ n → Within n ks → fresh ms ks ≡ true → count (marked ms ks) ≡ count ms + length ks
count_fresh n ms [] len h new = omega arith
count_fresh n ms (k ∷ ks) len h new =
    let unmarked : get_or ms k false ≡ false = not_true (get_or ms k false) (left_true (not (get_or ms k false)) _ new) in
    omega (arith, count_set ms k false (omega (arith, first_within n k ks h, len)) unmarked, count_fresh n (set ms k true) ks (length-set ms k true ∙ len) (rest_within n k ks h) (right_true (not (get_or ms k false)) _ new))

count_twice : (n : ℕ) (ms : List Bool) (ks : List ℕ) → length ms ≡ n → Within n ks → fresh ms ks ≡ false → count (marked ms ks) < count ms + length ks
count_twice n ms [] len h old = absurd (cc old)
count_twice n ms (k ∷ ks) len h old = by_mark (get_or ms k false) refl (λ e. count_twice n (set ms k true) ks (length-set ms k true ∙ len) (rest_within n k ks h) e)
  where
    within : k < length ms
    within = omega (arith, first_within n k ks h, len)

    by_mark : (b : Bool) → get_or ms k false ≡ b → (fresh (set ms k true) ks ≡ false → count (marked (set ms k true) ks) < count (set ms k true) + length ks) → count (marked (set ms k true) ks) < count ms + length (k ∷ ks)
    by_mark true e rest =
        omega (arith, count_set ms k true within e, count_most n (set ms k true) ks (length-set ms k true ∙ len) (rest_within n k ks h))
    by_mark false e rest =
        let later : fresh (set ms k true) ks ≡ false = ap (λ b. not b && fresh (set ms k true) ks) (sym e) ∙ old in
        omega (arith, count_set ms k false within e, rest later)

-- all are marked where as many are as there are
all_counted : (ms : List Bool) → count ms ≡ length ms → list_all (λ m. m) ms ≡ true
all_counted [] h = refl
all_counted (true ∷ ms) h = all_counted ms (omega (arith, h, sum_by-cons (λ m. cond m 1 0) true ms))
all_counted (false ∷ ms) h = absurd (omega (arith, h, sum_by-cons (λ m. cond m 1 0) false ms, count_by-le-length (λ m. m) ms))

some_uncounted : (ms : List Bool) → count ms < length ms → list_all (λ m. m) ms ≡ false
some_uncounted [] h = absurd (omega (arith, h))
some_uncounted (true ∷ ms) h = some_uncounted ms (omega (arith, h, sum_by-cons (λ m. cond m 1 0) true ms))
some_uncounted (false ∷ ms) h = refl

-- the marks are at the places that were seen
abbrev Tells : List Bool → List ℕ → Type 0
Tells ms seen = (k : ℕ) → k < length ms → get_or ms k false ≡ list_any (nat_eq k) seen

tells_more : (ms : List Bool) (seen : List ℕ) (k : ℕ) → k < length ms → Tells ms seen → Tells (set ms k true) (seen ++ k ∷ [])
tells_more ms seen k h tells q within = by_place (nat_eq q k) refl
  where
    by_place : (b : Bool) → nat_eq q k ≡ b → get_or (set ms k true) q false ≡ list_any (nat_eq q) (seen ++ k ∷ [])
    by_place true e =
        let same : get_or (set ms k true) q false ≡ true = ap (λ j. get_or (set ms k true) j false) (are_equal q k e) ∙ get_or-set_same ms k true false h in
        same ∙ sym (seen_more q seen k ∙ ap (λ b. list_any (nat_eq q) seen || b) e ∙ any_or_true (list_any (nat_eq q) seen))
      where
        any_or_true : (b : Bool) → (b || true) ≡ true
        any_or_true true = refl
        any_or_true false = refl
    by_place false e =
        get_or-set_other ms k q true false (are_apart q k e) ∙ tells q (omega (arith, within, length-set ms k true)) ∙ sym (seen_more q seen k ∙ or_false (list_any (nat_eq q) seen) (nat_eq q k) e)

fresh_differ : (n : ℕ) (ms : List Bool) (seen ks : List ℕ) → length ms ≡ n → Within n ks → Tells ms seen → all_differ seen ≡ true → fresh ms ks ≡ true → all_differ (seen ++ ks) ≡ true
fresh_differ n ms seen [] len h tells differ new = ap all_differ (append-nil seen) ∙ differ
fresh_differ n ms seen (k ∷ ks) len h tells differ new =
    let within : k < length ms = omega (arith, first_within n k ks h, len) in
    let none : list_any (nat_eq k) seen ≡ false = sym (tells k within) ∙ not_true (get_or ms k false) (left_true (not (get_or ms k false)) _ new) in
    ap all_differ (sym (append_assoc seen (k ∷ []) ks))
    ∙ fresh_differ n (set ms k true) (seen ++ k ∷ []) ks (length-set ms k true ∙ len) (rest_within n k ks h) (tells_more ms seen k within tells) (differ_more seen k differ none) (right_true (not (get_or ms k false)) _ new)

differ_fresh : (n : ℕ) (ms : List Bool) (seen ks : List ℕ) → length ms ≡ n → Within n ks → Tells ms seen → all_differ (seen ++ ks) ≡ true → fresh ms ks ≡ true
differ_fresh n ms seen [] len h tells differ = refl
differ_fresh n ms seen (k ∷ ks) len h tells differ =
    let within : k < length ms = omega (arith, first_within n k ks h, len) in
    both_true (not (get_or ms k false)) _ (ap not (tells k within ∙ differ_split seen k ks differ))
    (differ_fresh n (set ms k true) (seen ++ k ∷ []) ks (length-set ms k true ∙ len) (rest_within n k ks h) (tells_more ms seen k within tells) (ap all_differ (append_assoc seen (k ∷ []) ks) ∙ differ))

-- so of as many places as there are, all are marked where all differ
none_tells : (n : ℕ) → Tells (replicate n false) []
none_tells n k h = get_or-replicate n k false false (omega (arith, h, length-replicate n false))

all_marked_differ : (n : ℕ) (ks : List ℕ) → Within n ks → length ks ≡ n → list_all (λ m. m) (marked (replicate n false) ks) ≡ all_differ ks
all_marked_differ n ks h many = by_fresh (fresh (replicate n false) ks) refl
  where
    len : length (replicate n false) ≡ n
    len = length-replicate n false

    none : count (replicate n false) ≡ 0
    none = omega (arith, sum_by-replicate (λ m. cond m 1 0) n false)

    size : length (marked (replicate n false) ks) ≡ n
    size = length_marked (replicate n false) ks ∙ len
      where
        length_marked : (ms : List Bool) (js : List ℕ) → length (marked ms js) ≡ length ms
        length_marked ms [] = refl
        length_marked ms (j ∷ js) = length_marked (set ms j true) js ∙ length-set ms j true

    not_differ : fresh (replicate n false) ks ≡ false → (b : Bool) → all_differ ks ≡ b → false ≡ b
    not_differ e true p = sym e ∙ differ_fresh n (replicate n false) [] ks len h (none_tells n) p
    not_differ e false p = refl

    by_fresh : (b : Bool) → fresh (replicate n false) ks ≡ b → list_all (λ m. m) (marked (replicate n false) ks) ≡ all_differ ks
    by_fresh true e =
        all_counted (marked (replicate n false) ks) (omega (arith, count_fresh n (replicate n false) ks len h e, none, many, size)) ∙ sym (fresh_differ n (replicate n false) [] ks len h (none_tells n) refl e)
    by_fresh false e =
        some_uncounted (marked (replicate n false) ks) (omega (arith, count_twice n (replicate n false) ks len h e, none, many, size)) ∙ not_differ e (all_differ ks) refl

-- what is wrong with indices that each name a place
abbrev pub unless_twice : Bool → Result (Unit {0}) Trap
unless_twice b = cond b (Ok tt) (Err Permutation)

-- the ends of the loop that marks
pub own_range : {I : Type 0} (f : I → ValueTree) (n : ℕ) (is : List I) → list_all (λ i. is_some (place_of n (f i))) is ≡ false → Err Range ≡ own_places n (map f is)
own_range f n is none =
    ap (λ b. cond b (unless_twice (all_differ (places_of n (map f is)))) (Err Range)) (sym (list_all_map (λ t. is_some (place_of n t)) f is ∙ none))

pub own_named : {I : Type 0} (f : I → ValueTree) (n : ℕ) (is : List I) (b : Bool) → list_all (λ i. is_some (place_of n (f i))) is ≡ true → all_differ (places_of n (map f is)) ≡ b → unless_twice b ≡ own_places n (map f is)
own_named f n is b named differ =
    ap unless_twice (sym differ)
    ∙ ap (λ c. cond c (unless_twice (all_differ (places_of n (map f is)))) (Err Range)) (sym (list_all_map (λ t. is_some (place_of n t)) f is ∙ named))

pub names_none : {I : Type 0} (f : I → ValueTree) (n : ℕ) (is : List I) (j : ℕ) (i : I) → j < length is → i ≡ get_or is j i → None ≡ place_of n (f i) → Err Range ≡ own_places n (map f is)
names_none f n is j i h at names =
    own_range f n is (list_all_at (λ i. is_some (place_of n (f i))) is j i h (ap (λ x. is_some (place_of n (f x))) (sym at) ∙ ap is_some (sym names)))

pub all_marked_own : {I : Type 0} (f : I → ValueTree) (ms : List Bool) (is : List I) (j : ℕ) (b : Bool) → length is ≤ j → list_all (λ i. is_some (place_of (length is) (f i))) (take j is) ≡ true
    → marked ms (places_of (length is) (map f (drop j is))) ≡ marked (replicate (length is) false) (places_of (length is) (map f is)) → list_all (λ m. m) ms ≡ b
    → unless_twice b ≡ own_places (length is) (map f is)
all_marked_own f ms is j b end named marks all = own_named f n is b every (sym (all_marked_differ n (places_of n (map f is)) (below_len n (map f is)) many) ∙ ap (list_all (λ m. m)) (sym last) ∙ all)
  where
    n : ℕ
    n = length is

    every : list_all (λ i. is_some (place_of n (f i))) is ≡ true
    every = ap (list_all (λ i. is_some (place_of n (f i)))) (sym (take_all j is end)) ∙ named

    many : length (places_of n (map f is)) ≡ n
    many = length_named n (map f is) (list_all_map (λ t. is_some (place_of n t)) f is ∙ every) ∙ length-map is f

    last : ms ≡ marked (replicate n false) (places_of n (map f is))
    last = ap (λ js. marked ms (places_of n (map f js))) (sym (drop_all j is end)) ∙ marks

-- what the refusal of the indices says of the call
pub refused_places : {I : Type 0} (f : I → ValueTree) (is : List I) (ts : List ValueTree) (e : Trap) → length ts ≡ length is → own_places (length ts) (map f is) ≡ Err e
    → IsRefused (if_there (all_of as_int (map f is)) (permuted ts)) e
refused_places f is ts e same wrong = by_names (list_all (λ i. is_some (place_of n (f i))) is) refl
  where
    n : ℕ
    n = length ts

    refusal : Trap → Type 0
    refusal t = IsRefused (if_there (all_of as_int (map f is)) (permuted ts)) t

    by_differ : list_all (λ i. is_some (place_of n (f i))) is ≡ true → (b : Bool) → all_differ (places_of n (map f is)) ≡ b → unless_twice b ≡ Err e → refusal e
    by_differ named true p q = absurd (cc q)
    by_differ named false p q =
        let is_it : Permutation ≡ e = cc q in
        subst refusal is_it (refused_twice f is ts same named p)

    by_names : (b : Bool) → list_all (λ i. is_some (place_of n (f i))) is ≡ b → refusal e
    by_names true p = by_differ p (all_differ (places_of n (map f is))) refl (own_named f n is _ p refl ∙ wrong)
    by_names false p =
        let told : Err Range ≡ Err e = own_range f n is p ∙ wrong in
        let is_it : Range ≡ e = cc told in
        subst refusal is_it (refused_beyond f is ts same p)

-- and what their own places say of them
pub are_named : {I : Type 0} (f : I → ValueTree) (n : ℕ) (is : List I) → own_places n (map f is) ≡ Ok tt → list_all (λ i. is_some (place_of n (f i))) is ≡ true
are_named f n is own = by_names (list_all (λ i. is_some (place_of n (f i))) is) refl
  where
    by_names : (b : Bool) → list_all (λ i. is_some (place_of n (f i))) is ≡ b → b ≡ true
    by_names true p = refl
    by_names false p =
        let told : Err Range ≡ Ok tt = own_range f n is p ∙ own in
        absurd (cc told)

pub are_apart_all : {I : Type 0} (f : I → ValueTree) (n : ℕ) (is : List I) → own_places n (map f is) ≡ Ok tt → all_differ (places_of n (map f is)) ≡ true
are_apart_all f n is own = by_differ (all_differ (places_of n (map f is))) refl
  where
    by_differ : (b : Bool) → all_differ (places_of n (map f is)) ≡ b → b ≡ true
    by_differ true p = refl
    by_differ false p =
        let told : Err Permutation ≡ Ok tt = own_named f n is false (are_named f n is own) p ∙ own in
        absurd (cc told)
