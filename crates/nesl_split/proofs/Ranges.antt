-- Intervals of places, place by place and cut in two.
use Rattle.std.proofs.Common.{◌≡◌, ℕ, suc, zero, ◌+◌, ◌-◌, ◌<◌, ◌≤◌, List, [], ◌∷◌, ◌++◌, length, take, drop, Some, refl, sym, ap, ◌∙◌, arith, add-one, take-add, take_all, drop-drop, drop-cons}
use Rattle.std.specs.Prelude.{slice_get, slice_range}
use Rattle.std.specs.List.{range_with_len}
use Rattle.std.proofs.lemmas.List.FromFn.{length-range_with_len}
use Rattle.std.proofs.lemmas.Option.{slice_get_within, get_or_from_slice_get}

-- all of them
pub range_whole : {X : Type 0} (xs : List X) (n : ℕ) → n ≡ length xs → slice_range xs 0 n ≡ xs
range_whole xs n e = let same : n - 0 ≡ n = omega arith in rw same (take_all n xs (omega arith))

pub range_all : (n : ℕ) → slice_range (range_with_len 0 n) 0 n ≡ range_with_len 0 n
range_all n = range_whole (range_with_len 0 n) n (sym (length-range_with_len 0 n))

-- the first of them, and the others
pub range_first : {X : Type 0} (xs : List X) (i n : ℕ) (x : X) → i < n → slice_get xs i ≡ Some x → slice_range xs i n ≡ x ∷ slice_range xs (i + 1) n
range_first xs i n x some h =
    let front : drop i xs ≡ x ∷ drop (i + 1) xs = drop-cons xs i x (slice_get_within xs i x h) ∙ rw (get_or_from_slice_get xs i x x h, add-one) refl in
    let more : n - i ≡ suc (n - (i + 1)) = omega arith in
    rw (front, more) refl

-- none is left
pub range_none : {X : Type 0} (xs : List X) (i n : ℕ) → n ≤ i → slice_range xs i n ≡ []
range_none xs i n h = let none : n - i ≡ zero = omega arith in rw none refl

-- cut in two
pub range_cut : {X : Type 0} (xs : List X) (from centre to : ℕ) → from ≤ centre → centre ≤ to → slice_range xs from to ≡ slice_range xs from centre ++ slice_range xs centre to
range_cut xs from centre to h k =
    let both : to - from ≡ (centre - from) + (to - centre) = omega arith in
    let there : from + (centre - from) ≡ centre = omega arith in
    ap (λ n. take n (drop from xs)) both ∙ take-add (centre - from) (to - centre) (drop from xs)
    ∙ ap (λ ys. take (centre - from) (drop from xs) ++ take (to - centre) ys) (drop-drop (centre - from) from xs ∙ ap (λ n. drop n xs) there)
