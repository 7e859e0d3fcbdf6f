-- The sums of few short numbers.
use Rattle.std.proofs.Common.{◌≡◌, ℕ, zero, suc, ◌+◌, ◌*◌, ◌^◌, ◌<◌, ℤ, pos, negsuc, neg_ℤ, ◌≤ℤ◌, ◌<ℤ◌, true, cond, List, [], ◌∷◌, length, map, take, refl, ap, sym, ◌∙◌, arith, Some, option_and_then, ◌%◌, of_z, w64, FitsSigned}
use Rattle.std.specs.List.{list_all, range_with_len}
use Rattle.std.proofs.lemmas.Int.{ints}
use Rattle.std.proofs.lemmas.List.{take_all}
use Rattle.std.proofs.lemmas.Bool.Decides.{Decides-ltb}
use Rattle.nesl_scalars.specs.declared.trap.Trap.TheVariants.{Overflow}
use Rattle.nesl_values.specs.Tree.{ValueTree, int}
use Rattle.nesl_values.specs.Parts.{as_int, as_sequence}
use Rattle.nesl_seqs_base.specs.Outcome.{fits, gives, traps, if_there}
use Rattle.nesl_seqs_base.specs.Reductions.{all_of, total, summed}
use Rattle.nesl_seqs_base.specs.Arguments.{numbers}
use Rattle.nesl_seqs_base.specs.Scans.{before_each}
use Rattle.nesl_seqs_base.proofs.Equality.{left_true, right_true, both_true}
use Rattle.nesl_seqs.specs.Elements.{wrapped_total}
use Rattle.nesl_seqs.specs.Leaves.{is_short}
use Rattle.nesl_seqs.proofs.Before.{wrapped_same}
use Rattle.nesl_seqs_base.proofs.Shapes.{leaves_read}

short_range : (z : ℤ) → is_short z ≡ true → (neg_ℤ (pos (2 ^ 31)) ≤ℤ z) × (z <ℤ pos (2 ^ 31))
short_range (pos n) h =
    let below : n < 2 ^ 31 = (Decides-ltb n (2 ^ 31)).0 h in
    (omega (arith, ints), omega (arith, ints))
short_range (negsuc n) h =
    let below : n < 2 ^ 31 = (Decides-ltb n (2 ^ 31)).0 h in
    (omega (arith, ints), omega (arith, ints))

-- a number of 64 bits is one of 32 where 2^31 more than it has no higher bits
pub short_bits : (z : ℤ) → FitsSigned w64 z → (of_z w64 z + 2147483648) % 18446744073709551616 < 2 ^ 32 → is_short z ≡ true
short_bits (pos n) word h = (Decides-ltb n (2 ^ 31)).1 (omega (arith, ints, word, h))
short_bits (negsuc n) word h = (Decides-ltb n (2 ^ 31)).1 (omega (arith, ints, word, h))

fits_from_range : (z : ℤ) → neg_ℤ (pos (2 ^ 63)) ≤ℤ z → z <ℤ pos (2 ^ 63) → fits z ≡ true
fits_from_range (pos n) low high = (Decides-ltb n (2 ^ 63)).1 (omega (arith, ints, high))
fits_from_range (negsuc n) low high = (Decides-ltb n (2 ^ 63)).1 (omega (arith, ints, low))

-- the sum of the first k of short numbers
short_total : (k : ℕ) (zs : List ℤ) → list_all is_short zs ≡ true → (total (take k zs) ≤ℤ pos (length zs * 2 ^ 31)) × (neg_ℤ (pos (length zs * 2 ^ 31)) ≤ℤ total (take k zs))
short_total zero zs h = (omega (arith, ints), omega (arith, ints))
short_total (suc k) [] h = (omega (arith, ints), omega (arith, ints))
short_total (suc k) (z ∷ zs) h =
    let here = short_range z (left_true (is_short z) (list_all is_short zs) h) in
    let rest = short_total k zs (right_true (is_short z) (list_all is_short zs) h) in
    (omega (arith, ints, here.0, here.1, rest.0, rest.1), omega (arith, ints, here.0, here.1, rest.0, rest.1))

all_fit : (f : ℕ → ℤ) → ((k : ℕ) → fits (f k) ≡ true) → (ks : List ℕ) → list_all fits (map f ks) ≡ true
all_fit f h [] = refl
all_fit f h (k ∷ ks) = both_true (fits (f k)) (list_all fits (map f ks)) (h k) (all_fit f h ks)

pub short_sums_fit : (zs : List ℤ) → length zs < 2 ^ 32 → list_all is_short zs ≡ true → list_all fits (before_each total zs) ≡ true
short_sums_fit zs few short = all_fit (λ k. total (take k zs)) one (range_with_len 0 (length zs))
  where
    one : (k : ℕ) → fits (total (take k zs)) ≡ true
    one k =
        let within = short_total k zs short in
        fits_from_range (total (take k zs)) (omega (arith, ints, few, within.0, within.1)) (omega (arith, ints, few, within.0, within.1))

pub short_sum_fits : (zs : List ℤ) → length zs < 2 ^ 32 → list_all is_short zs ≡ true → fits (total zs) ≡ true
short_sum_fits zs few short =
    let within = short_total (length zs) zs short in
    let whole : take (length zs) zs ≡ zs = take_all (length zs) zs (omega arith) in
    ap (λ ys. fits (total ys)) (sym whole)
    ∙ fits_from_range (total (take (length zs) zs)) (omega (arith, ints, few, within.0, within.1)) (omega (arith, ints, few, within.0, within.1))

numbers_are : (t : ValueTree) (zs : List ℤ) → Some (map int zs) ≡ as_sequence t → numbers t ≡ Some zs
numbers_are t zs e = ap (option_and_then (all_of as_int)) (sym e) ∙ leaves_read as_int int (λ z. refl) zs

-- the outcome of `sum` where it fits
pub sum_planned : (t : ValueTree) (zs : List ℤ) → Some (map int zs) ≡ as_sequence t → fits (total zs) ≡ true → if_there (numbers t) summed ≡ gives (int (wrapped_total zs))
sum_planned t zs e fit =
    ap (λ o. if_there o summed) (numbers_are t zs e) ∙ ap (λ b. cond b (gives (int (total zs))) (traps Overflow)) fit ∙ ap (λ z. gives (int z)) (sym (wrapped_same (total zs) fit))
