-- Sums of nodes.
use Rattle.std.proofs.Common.{◌≡◌, ℕ, suc, ◌+◌, ◌-◌, ◌<◌, set, List, [], ◌∷◌, ◌++◌, length, map, take, drop, reverse, refl, ap, sym, ◌∙◌, arith, slice_range}
use Rattle.std.proofs.lemmas.List.{map-append, reverse-append, set_split}
use Rattle.nesl_values.specs.Tree.{ValueTree, size, sizes, trees_of, sequence}

pub sizes_append : (xs ys : List ValueTree) → sizes (trees_of (xs ++ ys)) ≡ sizes (trees_of xs) + sizes (trees_of ys)
sizes_append [] ys = omega arith
sizes_append (x ∷ xs) ys = omega (arith, sizes_append xs ys)

pub sizes_reverse : (xs : List ValueTree) → sizes (trees_of (reverse xs)) ≡ sizes (trees_of xs)
sizes_reverse [] = refl
sizes_reverse (x ∷ xs) =
    let parts : sizes (trees_of (reverse (x ∷ xs))) ≡ sizes (trees_of (reverse xs ++ x ∷ [])) = ap (λ ts. sizes (trees_of ts)) (reverse-append (x ∷ []) xs) in
    omega (arith, sizes_append (reverse xs) (x ∷ []), sizes_reverse xs)

pub map_reverse : {X : Type 0} (f : X → ValueTree) (xs : List X) → map f (reverse xs) ≡ reverse (map f xs)
map_reverse f [] = refl
map_reverse f (x ∷ xs) = ap (map f) (reverse-append (x ∷ []) xs) ∙ map-append f (reverse xs) (x ∷ []) ∙ ap (λ ts. ts ++ f x ∷ []) (map_reverse f xs) ∙ sym (reverse-append (f x ∷ []) (map f xs))

pub replaced_parts : (ts : List ValueTree) (i : ℕ) (x : ValueTree) → i < length ts → set ts i x ≡ take i ts ++ x ∷ drop (i + 1) ts
replaced_parts ts i x h =
    let next : suc i ≡ i + 1 = omega arith in
    set_split ts i x h ∙ ap (λ k. take i ts ++ x ∷ drop k ts) next

pub size_replaced : (ts : List ValueTree) (i : ℕ) (x : ValueTree) → i < length ts → size (sequence (set ts i x)) ≡ 1 + ((sizes (trees_of (take i ts)) + sizes (trees_of (drop (i + 1) ts))) + size x)
size_replaced ts i x h = ap (λ us. size (sequence us)) (replaced_parts ts i x h) ∙ omega (arith, sizes_append (take i ts) (x ∷ drop (i + 1) ts))

pub front_range : (n : ℕ) (ts : List ValueTree) → slice_range ts 0 n ≡ take n ts
front_range n ts =
    let all : n - 0 ≡ n = omega arith in
    ap (λ k. take k ts) all
