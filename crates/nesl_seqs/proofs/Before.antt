-- Loops that push what is computed from the elements before each.
use Rattle.std.proofs.Common.{◌≡◌, ℕ, ◌+◌, ◌<◌, ◌≤◌, ℤ, pos, negsuc, neg_ℤ, ◌+ℤ◌, ◌≤ℤ◌, ◌<ℤ◌, ◌^◌, Bool, true, false, ◌||◌, ◌&&◌, List, [], ◌∷◌, ◌++◌, length, map, take, get_or, refl, ap, sym, ◌∙◌, arith, w64, FitsSigned}
use Rattle.std.specs.List.{list_any, list_all, range_with_len}
use Rattle.std.specs.Int.{int_wrap}
use Rattle.std.proofs.lemmas.Int.{ints, int_wrap_fits, int_wrap-add_left}
use Rattle.std.proofs.lemmas.Bool.Decides.{Decides-ltb}
use Rattle.std.proofs.lemmas.List.{take_more, take-map, map-append, length-map}
use Rattle.std.proofs.lemmas.List.Folds.{list_any-append, list_all-append}
use Rattle.std.proofs.lemmas.List.FromFn.{map-range_with_len_more}
use Rattle.std.proofs.lemmas.List.Sums.{fold-append}
use Rattle.nesl_values.specs.Tree.{ValueTree}
use Rattle.nesl_seqs_base.specs.Outcome.{fits}
use Rattle.nesl_seqs_base.specs.Reductions.{total}
use Rattle.nesl_seqs_base.specs.Scans.{before_each, joined_truths, join_truths, joined_bits, join_bits, no_bits_joined}
use Rattle.nesl_seqs_base.specs.declared.joint.Joint.{Joint}
use Rattle.nesl_seqs_base.specs.declared.joint.Joint.TheVariants.{Or, And}
use Rattle.nesl_seqs_base.proofs.Equality.{left_true, right_true}
use Rattle.nesl_seqs.specs.Elements.{wrapped_total}

-- one more of what is read from each item
pub read_more : {I X : Type 0} (g : ValueTree → X) (f : I → ValueTree) (is : List I) (k : ℕ) (i : I) → k < length is → i ≡ get_or is k i
    → take (k + 1) (map g (map f is)) ≡ take k (map g (map f is)) ++ g (f i) ∷ []
read_more g f is k i h at =
    let one : take (k + 1) is ≡ take k is ++ i ∷ [] = take_more is k i h ∙ ap (λ j. take k is ++ j ∷ []) (sym at) in
    take-map g (k + 1) (map f is) ∙ ap (map g) (take-map f (k + 1) is ∙ ap (map f) one ∙ map-append f (take k is) (i ∷ []))
    ∙ map-append g (map f (take k is)) (f i ∷ []) ∙ ap (λ xs. xs ++ g (f i) ∷ []) (sym (take-map g k (map f is) ∙ ap (map g) (take-map f k is)))

-- what is computed from the elements before each of the first k places
abbrev pub first_told : {X Y : Type 0} → (List X → Y) → List X → ℕ → List Y
first_told f xs k = map (λ j. f (take j xs)) (range_with_len 0 k)

pub told_more : {X Y : Type 0} (f : List X → Y) (xs : List X) (k : ℕ) → first_told f xs (k + 1) ≡ first_told f xs k ++ f (take k xs) ∷ []
told_more f xs k =
    let start : 0 + k ≡ k = omega arith in
    map-range_with_len_more (λ j. f (take j xs)) 0 k k start

pub pushed_more : {X Y : Type 0} (f : List X → Y) (xs : List X) (k : ℕ) (old new : List Y) (y : Y) → new ≡ old ++ y ∷ [] → y ≡ f (take k xs) → old ≡ first_told f xs k → new ≡ first_told f xs (k + 1)
pushed_more f xs k old new y push is so_far =
    push ∙ ap (λ x. old ++ x ∷ []) is ∙ ap (λ ys. ys ++ f (take k xs) ∷ []) so_far ∙ sym (told_more f xs k)

pub pushed_all : {I X Y : Type 0} (f : List X → Y) (g : ValueTree → X) (h : I → ValueTree) (is : List I) (k : ℕ) (ys : List Y) → length is ≤ k → k ≤ length is → ys ≡ first_told f (map g (map h is)) k → ys ≡ before_each f (map g (map h is))
pushed_all f g h is k ys low high so_far =
    let end : k ≡ length (map g (map h is)) = omega (arith, length-map (map h is) g, length-map is h) in
    so_far ∙ ap (first_told f (map g (map h is))) end

pub total_more : (zs : List ℤ) (z : ℤ) → total (zs ++ z ∷ []) ≡ total zs +ℤ z
total_more [] z = omega (arith, ints)
total_more (y ∷ ys) z = omega (arith, ints, total_more ys z)

pub wrapped_more : (zs : List ℤ) (z : ℤ) → wrapped_total (zs ++ z ∷ []) ≡ int_wrap w64 (wrapped_total zs +ℤ z)
wrapped_more zs z = ap (int_wrap w64) (total_more zs z) ∙ sym (int_wrap-add_left w64 (total zs) z)

pub joined_more : (j : Joint) (bs : List Bool) (b : Bool) → joined_truths j (bs ++ b ∷ []) ≡ join_truths j (joined_truths j bs) b
joined_more Or bs b = list_any-append (λ c. c) bs (b ∷ []) ∙ ap (λ c. list_any (λ c. c) bs || c) (ends b)
  where
    ends : (c : Bool) → (c || false) ≡ c
    ends true = refl
    ends false = refl
joined_more And bs b = list_all-append (λ c. c) bs (b ∷ []) ∙ ap (λ c. list_all (λ c. c) bs && c) (ends b)
  where
    ends : (c : Bool) → (c && true) ≡ c
    ends true = refl
    ends false = refl

pub bits_more : (j : Joint) (zs : List ℤ) (z : ℤ) → joined_bits j (zs ++ z ∷ []) ≡ join_bits j (joined_bits j zs) z
bits_more j zs z = fold-append (join_bits j) (no_bits_joined j) zs (z ∷ [])

and_true : (b : Bool) → (b && true) ≡ b
and_true true = refl
and_true false = refl

-- one turn of the loop that looks whether the sums fit
pub fit_more : (zs : List ℤ) (k : ℕ) (fit one : Bool) (t : ℤ) → fit ≡ list_all fits (first_told total zs k) → one ≡ fits t → t ≡ total (take k zs) → (fit && one) ≡ list_all fits (first_told total zs (k + 1))
fit_more zs k fit one t so_far here is =
    let before = list_all fits (first_told total zs k) in
    ap (λ b. b && one) so_far ∙ ap (λ b. before && b) (here ∙ ap fits is ∙ sym (and_true (fits (total (take k zs)))))
    ∙ sym (ap (list_all fits) (told_more total zs k) ∙ list_all-append fits (first_told total zs k) (total (take k zs) ∷ []))

-- a number that fits is one of 64 bits
pub in_range : (z : ℤ) → fits z ≡ true → (neg_ℤ (pos (2 ^ 63)) ≤ℤ z) × (z <ℤ pos (2 ^ 63))
in_range (pos n) h =
    let below : n < 2 ^ 63 = (Decides-ltb n (2 ^ 63)).0 h in
    (omega (arith, ints), omega (arith, ints))
in_range (negsuc n) h =
    let below : n < 2 ^ 63 = (Decides-ltb n (2 ^ 63)).0 h in
    (omega (arith, ints), omega (arith, ints))

-- so it is left as it is
pub wrapped_same : (z : ℤ) → fits z ≡ true → int_wrap w64 z ≡ z
wrapped_same z h =
    let range = in_range z h in
    let word : FitsSigned w64 z = omega (arith, ints, range) in
    int_wrap_fits w64 z word

all_wrapped_same : (f : ℕ → ℤ) (ks : List ℕ) → list_all fits (map f ks) ≡ true → map (λ k. int_wrap w64 (f k)) ks ≡ map f ks
all_wrapped_same f [] h = refl
all_wrapped_same f (k ∷ ks) h =
    ap (λ z. z ∷ map (λ j. int_wrap w64 (f j)) ks) (wrapped_same (f k) (left_true (fits (f k)) (list_all fits (map f ks)) h))
    ∙ ap (λ zs. f k ∷ zs) (all_wrapped_same f ks (right_true (fits (f k)) (list_all fits (map f ks)) h))

pub sums_same : (zs : List ℤ) → list_all fits (before_each total zs) ≡ true → before_each wrapped_total zs ≡ before_each total zs
sums_same zs h = all_wrapped_same (λ k. total (take k zs)) (range_with_len 0 (length zs)) h
