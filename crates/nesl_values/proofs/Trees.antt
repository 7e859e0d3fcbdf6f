-- Sizes of trees, and lists of what is seen in other lists.
use Rattle.std.proofs.Common.{◌≡◌, ℕ, zero, suc, ℤ, Bool, ◌+◌, ◌<◌, ◌≤◌, List, [], ◌∷◌, ◌++◌, length, map, take, drop, ◌-◌, refl, ap, ◌∙◌, sym, arith, get_or, slice_range}
use Rattle.std.proofs.lemmas.List.{map-append, take-map, drop-map, take_more}
use Rattle.nesl_values.specs.Tree.{ValueTree, int, boolean, character, pair, seq, tagged, trees_of, size, sizes}

pub size_positive : (t : ValueTree) → 0 < size t
size_positive (int n) = omega arith
size_positive (boolean b) = omega arith
size_positive (character c) = omega arith
size_positive (pair l r) = omega arith
size_positive (seq ts) = omega arith
size_positive (tagged n t) = omega arith

sizes-leaves : {X : Type 0} (leaf : X → ValueTree) → ((x : X) → size (leaf x) ≡ 1) → (xs : List X) → sizes (trees_of (map leaf xs)) ≡ length xs
sizes-leaves leaf one [] = refl
sizes-leaves leaf one (x ∷ xs) = omega (arith, one x, sizes-leaves leaf one xs)

pub sizes-ints : (xs : List ℤ) → sizes (trees_of (map int xs)) ≡ length xs
sizes-ints = sizes-leaves int (λ _. refl)

pub sizes-bools : (xs : List Bool) → sizes (trees_of (map boolean xs)) ≡ length xs
sizes-bools = sizes-leaves boolean (λ _. refl)

pub sizes-chars : (xs : List ℕ) → sizes (trees_of (map character xs)) ≡ length xs
sizes-chars = sizes-leaves character (λ _. refl)

pub sizes-append : (ts us : List ValueTree) → sizes (trees_of (ts ++ us)) ≡ sizes (trees_of ts) + sizes (trees_of us)
sizes-append [] us = omega arith
sizes-append (t ∷ ts) us = omega (arith, sizes-append ts us)

-- one more element of a list of things that are seen as trees
pub sizes_turn : {X : Type 0} (f : X → ValueTree) (xs : List X) (i : ℕ) (x : X) → i < length xs → x ≡ get_or xs i x → sizes (trees_of (map f (take (i + 1) xs))) ≡ sizes (trees_of (map f (take i xs))) + size (f x)
sizes_turn f xs i x h at =
    let more : map f (take (i + 1) xs) ≡ map f (take i xs) ++ f x ∷ [] = ap (map f) (take_more xs i x h) ∙ map-append f (take i xs) (get_or xs i x ∷ []) ∙ ap (λ y. map f (take i xs) ++ f y ∷ []) (sym at) in
    omega (arith, ap (λ ts. sizes (trees_of ts)) more, sizes-append (map f (take i xs)) (f x ∷ []))

pub sizes_up_to : {X : Type 0} (f : X → ValueTree) (i : ℕ) (xs : List X) → sizes (trees_of (map f (take i xs))) ≤ sizes (trees_of (map f xs))
sizes_up_to f zero xs = omega arith
sizes_up_to f (suc i) [] = omega arith
sizes_up_to f (suc i) (x ∷ xs) = omega (arith, sizes_up_to f i xs)

-- one more turn of a loop that makes a list of what `g` sees in `zs`
pub map_turn : {X Y T : Type 0} (f : X → T) (g : Y → T) (xs ys : List X) (x : X) (zs : List Y) (i : ℕ) (y : Y) → i < length zs → y ≡ get_or zs i y → ys ≡ xs ++ x ∷ [] → map f xs ≡ map g (take i zs) → f x ≡ g y
    → map f ys ≡ map g (take (i + 1) zs)
map_turn f g xs ys x zs i y h at push so_far here =
    ap (map f) push ∙ map-append f xs (x ∷ []) ∙ ap (λ ts. ts ++ f x ∷ []) so_far ∙ ap (λ t. map g (take i zs) ++ t ∷ []) (here ∙ ap g at) ∙ sym (ap (map g) (take_more zs i y h) ∙ map-append g (take i zs) (get_or zs i y ∷ []))

-- a part of what is seen in a list
pub slice_range-map : {X T : Type 0} (f : X → T) (xs : List X) (start end : ℕ) → map f (slice_range xs start end) ≡ slice_range (map f xs) start end
slice_range-map f xs start end = sym (take-map f (end - start) (drop start xs)) ∙ ap (take (end - start)) (sym (drop-map f start xs))
