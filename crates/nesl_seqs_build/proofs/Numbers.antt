-- Progressions and copies.
use Rattle.std.proofs.Common.{◌≡◌, ℕ, ℤ, zero, suc, ◌+◌, ◌-◌, ◌*◌, ◌/◌, ◌^◌, ◌≤◌, ◌<◌, ◌+ℤ◌, pos, List, [], ◌∷◌, ◌++◌, map, replicate, refl, ap, sym, ◌∙◌, arith}
use Rattle.std.specs.List.{range_with_len}
use Rattle.std.proofs.Math.Nat.{mul-le-mul_left}
use Rattle.std.proofs.lemmas.List.{map-append, replicate_more}
use Rattle.std.proofs.lemmas.List.FromFn.{map-range_with_len_more}
use Rattle.nesl_values.specs.Tree.{ValueTree, int, size, sizes, trees_of, sequence}
use Rattle.nesl_seqs_base.specs.Ranges.{progression}

sizes_ints : (f : ℕ → ℤ) (a n : ℕ) → sizes (trees_of (map (λ j. int (f j)) (range_with_len a n))) ≡ n
sizes_ints f a zero = refl
sizes_ints f a (suc n) = omega (arith, sizes_ints f (a + 1) n)

pub size_progression : (s : ℤ) (d n : ℕ) → size (sequence (progression s d n)) ≡ 1 + n
size_progression s d n = omega (arith, sizes_ints (λ j. s +ℤ pos (j * d)) 0 n)

pub sizes_replicate : (n : ℕ) (t : ValueTree) → sizes (trees_of (replicate n t)) ≡ n * size t
sizes_replicate zero t = omega arith
sizes_replicate (suc n) t = omega (arith, sizes_replicate n t)

pub copies_within : (n s limit : ℕ) → 0 < n → s ≤ limit / n → n * s ≤ limit
copies_within n s limit h p = grind arith

pub progression_more : (s : ℤ) (d n : ℕ) → progression s d (n + 1) ≡ progression s d n ++ int (s +ℤ pos (n * d)) ∷ []
progression_more s d n = map-range_with_len_more (λ j. int (s +ℤ pos (j * d))) 0 n n (omega arith)

pub number_pushed : (s : ℤ) (d n : ℕ) (old new : List ℤ) (x : ℤ) → map int old ≡ progression s d n → new ≡ old ++ x ∷ [] → x ≡ s +ℤ pos (n * d) → map int new ≡ progression s d (n + 1)
number_pushed s d n old new x before push is =
    ap (map int) push ∙ map-append int old (x ∷ []) ∙ ap (λ ts. ts ++ int x ∷ []) before ∙ ap (λ z. progression s d n ++ int z ∷ []) is ∙ sym (progression_more s d n)

pub map_replicate : {X : Type 0} (f : X → ValueTree) (n : ℕ) (x : X) (ys : List X) (t : ValueTree) → ys ≡ replicate n x → t ≡ f x → map f ys ≡ replicate n t
map_replicate f n x ys t is seen = ap (map f) is ∙ replicated n ∙ ap (replicate n) (sym seen)
  where
    replicated : (m : ℕ) → map f (replicate m x) ≡ replicate m (f x)
    replicated zero = refl
    replicated (suc m) = ap (λ ts. f x ∷ ts) (replicated m)

-- the last of the steps is below the end
pub step_below : (gap d j : ℕ) → 1 ≤ d → j < (gap + (d - 1)) / d → j * d < gap
step_below gap d j h p =
    let whole : d * (j + 1) ≤ d * ((gap + (d - 1)) / d) = mul-le-mul_left d (omega arith) in
    omega arith

pub copy_pushed : {X : Type 0} (f : X → ValueTree) (n : ℕ) (t : ValueTree) (old new : List X) (x : X) → map f old ≡ replicate n t → new ≡ old ++ x ∷ [] → f x ≡ t → map f new ≡ replicate (n + 1) t
copy_pushed f n t old new x before push is =
    ap (map f) push ∙ map-append f old (x ∷ []) ∙ ap (λ ts. ts ++ f x ∷ []) before ∙ ap (λ u. replicate n t ++ u ∷ []) is ∙ replicate_more n t

pub copies_fit : (n s : ℕ) → n < 2 ^ 63 → s < 2 ^ 65 → n * s ≤ 2 ^ 128 - 2
copies_fit n s h p =
    let first : n * s ≤ n * (2 ^ 65) = mul-le-mul_left n (omega arith) in
    omega arith

pub copies_small : (n : ℕ) (t : ValueTree) → n < 2 ^ 63 → size t < 2 ^ 65 → size (sequence (replicate n t)) < 2 ^ 128
copies_small n t few small = omega (arith, sizes_replicate n t, copies_fit n (size t) few small)
