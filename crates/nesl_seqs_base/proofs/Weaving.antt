-- Every other element of a list, and lists that are woven together.
use Rattle.std.proofs.lemmas.Option.{slice_get_within, get_or_from_slice_get}
use Rattle.std.proofs.Common.{◌≡◌, slice_range, Some, min, ◌%◌, Bor, ◌⊎◌, inl, inr, ℕ, zero, suc, ◌+◌, ◌*◌, ◌/◌, ◌<◌, ◌≤◌, List, [], ◌∷◌, ◌++◌, length, map, drop, refl, ap, sym, ◌∙◌, arith, slice_get, get_or}
use Rattle.std.proofs.lemmas.List.{drop_more, drop_all, take_rest, drop-drop, append_assoc, append-nil, get_or-map}
use Rattle.nesl_values.specs.declared.value.Value.{Value}
use Rattle.nesl_values.specs.View.{item_trees}
use Rattle.nesl_values.specs.declared.items.Items.{Items}
use Rattle.nesl_values.specs.Tree.{ValueTree, int, boolean, character, sequence, size, sizes, trees_of}
use Rattle.nesl_seqs_base.proofs.Totals.{sizes_append}
use Rattle.nesl_seqs_base.specs.Woven.{evens, odds, woven}

pub even_places : (ts : List ValueTree) (j : ℕ) → slice_get (evens ts) j ≡ slice_get ts (2 * j)
even_places [] j = refl
even_places (t ∷ []) zero = refl
even_places (t ∷ []) (suc j) =
    let next : 2 * suc j ≡ suc (suc (2 * j)) = omega arith in
    rw next refl
even_places (t ∷ u ∷ ts) zero = refl
even_places (t ∷ u ∷ ts) (suc j) =
    let next : 2 * suc j ≡ suc (suc (2 * j)) = omega arith in
    rw next (even_places ts j)

pub odd_places : (ts : List ValueTree) (j : ℕ) → slice_get (odds ts) j ≡ slice_get ts (2 * j + 1)
odd_places [] j = refl
odd_places (t ∷ ts) j =
    let next : 2 * j + 1 ≡ suc (2 * j) = omega arith in
    rw next (even_places ts j)

sizes_woven : (ts us : List ValueTree) → sizes (trees_of (woven ts us)) ≡ sizes (trees_of ts) + sizes (trees_of us)
sizes_woven [] us = omega arith
sizes_woven (t ∷ ts) [] = omega arith
sizes_woven (t ∷ ts) (u ∷ us) = omega (arith, sizes_woven ts us)

pub size_woven : (ts us : List ValueTree) → size (sequence (woven ts us)) ≡ size (sequence (ts ++ us))
size_woven ts us = omega (arith, sizes_woven ts us, sizes_append ts us)

pub evens_more : {X : Type 0} (x : X) (xs : List X) → evens (x ∷ xs) ≡ x ∷ odds xs
evens_more x [] = refl
evens_more x (y ∷ ys) = refl

unwoven : (ts us : List ValueTree) → length us ≤ length ts → length ts ≤ length us + 1 → (evens (woven ts us) ≡ ts) × (odds (woven ts us) ≡ us)
unwoven [] [] h k = (refl, refl)
unwoven [] (u ∷ us) h k = absurd (omega arith)
unwoven (t ∷ []) [] h k = (refl, refl)
unwoven (t ∷ s ∷ ts) [] h k = absurd (omega arith)
unwoven (t ∷ ts) (u ∷ us) h k =
    let rest = unwoven ts us (omega arith) (omega arith) in
    (ap (λ vs. t ∷ vs) rest.0, evens_more u (woven ts us) ∙ ap (λ vs. u ∷ vs) rest.1)

near : (m n : ℕ) → (m ≡ n) ⊎ (m ≡ n + 1) → (n ≤ m) × (m ≤ n + 1)
near m n (inl h) = (omega arith, omega arith)
near m n (inr h) = (omega arith, omega arith)

pub woven_apart : (ts us : List ValueTree) → (length ts ≡ length us) ⊎ (length ts ≡ length us + 1) → (evens (woven ts us) ≡ ts) × (odds (woven ts us) ≡ us)
woven_apart ts us h = let n = near (length ts) (length us) h in unwoven ts us n.0 n.1

evens_from : {X : Type 0} (xs : List X) (i : ℕ) (x : X) → i < length xs → x ≡ get_or xs i x → evens (drop i xs) ≡ x ∷ evens (drop (i + 2) xs)
evens_from xs i x h at =
    let two : i + 1 + 1 ≡ i + 2 = omega arith in
    ap evens (drop_more xs i x h) ∙ evens_more (get_or xs i x) (drop (i + 1) xs) ∙ ap (λ ys. get_or xs i x ∷ evens ys) (drop-drop 1 (i + 1) xs) ∙ ap (λ k. get_or xs i x ∷ evens (drop k xs)) two ∙ ap (λ y. y ∷ evens (drop (i + 2) xs)) (sym at)

evens_next : {X : Type 0} (xs : List X) (p : ℕ) (x : X) → 2 * p < length xs → x ≡ get_or xs (2 * p) x → evens (drop (2 * p) xs) ≡ x ∷ evens (drop (2 * (p + 1)) xs)
evens_next xs p x h at =
    let two : 2 * p + 2 ≡ 2 * (p + 1) = omega arith in
    evens_from xs (2 * p) x h at ∙ ap (λ k. x ∷ evens (drop k xs)) two

-- one more turn of a loop that takes every other item
pub evens_turn : {X : Type 0} (xs made now : List X) (p : ℕ) (x : X) → 2 * p < length xs → x ≡ get_or xs (2 * p) x → now ≡ made ++ x ∷ [] → made ++ evens (drop (2 * p) xs) ≡ evens xs → now ++ evens (drop (2 * (p + 1)) xs) ≡ evens xs
evens_turn xs made now p x h at push so_far =
    let rest = evens (drop (2 * (p + 1)) xs) in
    ap (λ ys. ys ++ rest) push ∙ append_assoc made (x ∷ []) rest ∙ ap (λ ys. made ++ ys) (sym (evens_next xs p x h at)) ∙ so_far

pub evens_end : {X : Type 0} (xs made : List X) (p : ℕ) → length xs ≤ 2 * p → made ++ evens (drop (2 * p) xs) ≡ evens xs → made ≡ evens xs
evens_end xs made p h so_far = sym (append-nil made) ∙ ap (λ ys. made ++ evens ys) (sym (drop_all (2 * p) xs h)) ∙ so_far

-- an item as it is seen
pub seen_at : {X Y : Type 0} (f : X → Y) (xs : List X) (i : ℕ) (x : X) (y : Y) → i < length xs → x ≡ get_or xs i x → y ≡ f x → y ≡ get_or (map f xs) i y
seen_at f xs i x y h at is = is ∙ ap f at ∙ sym (get_or-map f xs i x y h)

-- the nodes of every other item that is left
pub sizes_next : (ts : List ValueTree) (p : ℕ) (t : ValueTree) → 2 * p < length ts → t ≡ get_or ts (2 * p) t → sizes (trees_of (evens (drop (2 * p) ts))) ≡ size t + sizes (trees_of (evens (drop (2 * (p + 1)) ts)))
sizes_next ts p t h at = ap (λ us. sizes (trees_of us)) (evens_next ts p t h at)

pub map_evens : {X Y : Type 0} (f : X → Y) (xs : List X) → map f (evens xs) ≡ evens (map f xs)
map_evens f [] = refl
map_evens f (x ∷ []) = refl
map_evens f (x ∷ y ∷ xs) = ap (λ ys. f x ∷ ys) (map_evens f xs)

pub map_woven : {X Y : Type 0} (f : X → Y) (xs ys : List X) → map f (woven xs ys) ≡ woven (map f xs) (map f ys)
map_woven f [] ys = refl
map_woven f (x ∷ xs) [] = refl
map_woven f (x ∷ xs) (y ∷ ys) = ap (λ zs. f x ∷ f y ∷ zs) (map_woven f xs ys)

woven_from : {X : Type 0} (xs ys : List X) (i : ℕ) (x y : X) → i < length xs → i < length ys → x ≡ get_or xs i x → y ≡ get_or ys i y → woven (drop i xs) (drop i ys) ≡ x ∷ y ∷ woven (drop (i + 1) xs) (drop (i + 1) ys)
woven_from xs ys i x y h k at_x at_y =
    ap (λ zs. woven zs (drop i ys)) (drop_more xs i x h) ∙ ap (woven (get_or xs i x ∷ drop (i + 1) xs)) (drop_more ys i y k) ∙ ap (λ z. z ∷ get_or ys i y ∷ woven (drop (i + 1) xs) (drop (i + 1) ys)) (sym at_x) ∙ ap (λ z. x ∷ z ∷ woven (drop (i + 1) xs) (drop (i + 1) ys)) (sym at_y)

-- one more turn of a loop that takes one of each
pub woven_turn : {X : Type 0} (xs ys made half now : List X) (i : ℕ) (x y : X) → i < length xs → i < length ys → x ≡ get_or xs i x → y ≡ get_or ys i y → half ≡ made ++ x ∷ [] → now ≡ half ++ y ∷ []
    → made ++ woven (drop i xs) (drop i ys) ≡ woven xs ys → now ++ woven (drop (i + 1) xs) (drop (i + 1) ys) ≡ woven xs ys
woven_turn xs ys made half now i x y h k at_x at_y first second so_far =
    let rest = woven (drop (i + 1) xs) (drop (i + 1) ys) in
    ap (λ zs. zs ++ rest) second ∙ append_assoc half (y ∷ []) rest ∙ ap (λ zs. zs ++ y ∷ rest) first ∙ append_assoc made (x ∷ []) (y ∷ rest) ∙ ap (λ zs. made ++ zs) (sym (woven_from xs ys i x y h k at_x at_y)) ∙ so_far

woven_none : {X : Type 0} (xs : List X) → woven xs [] ≡ xs
woven_none [] = refl
woven_none (x ∷ xs) = refl

pub woven_end : {X : Type 0} (xs ys made now more : List X) (i : ℕ) → length ys ≤ i → more ≡ drop i xs → now ≡ made ++ more → made ++ woven (drop i xs) (drop i ys) ≡ woven xs ys → now ≡ woven xs ys
woven_end xs ys made now more i h rest push so_far =
    push ∙ ap (λ zs. made ++ zs) (rest ∙ sym (woven_none (drop i xs)) ∙ ap (woven (drop i xs)) (sym (drop_all i ys h))) ∙ so_far

leaves_of_evens : {X : Type 0} (leaf : X → ValueTree) → ((x : X) → size (leaf x) ≡ 1) → (xs : List X) → let n = length (map leaf xs) in sizes (trees_of (evens (map leaf xs))) ≡ n / 2 + min 1 (n % 2)
leaves_of_evens leaf one [] = omega arith
leaves_of_evens leaf one (x ∷ []) = omega (arith, one x)
leaves_of_evens leaf one (x ∷ y ∷ xs) = omega (arith, one x, leaves_of_evens leaf one xs)

-- half of packed items, rounded up
pub packed_evens : {A : Type 0} (items : Items A) → ((s : Bor (List (Value A))) → items ≡ Items.Values s → ⊥) → let n = length (item_trees items) in sizes (trees_of (evens (item_trees items))) ≡ n / 2 + min 1 (n % 2)
packed_evens (Items.Ints s) other = leaves_of_evens int (λ _. refl) s.now
packed_evens (Items.Bools s) other = leaves_of_evens boolean (λ _. refl) s.now
packed_evens (Items.Chars s) other = leaves_of_evens character (λ _. refl) s.now
packed_evens (Items.Values s) other = absurd (other s refl)

pub woven_turn_of : (xs ys made half now : List ValueTree) (i : ℕ) (x y : ValueTree) → slice_get xs i ≡ Some x → slice_get ys i ≡ Some y → half ≡ made ++ x ∷ [] → now ≡ half ++ y ∷ [] → made ++ woven (drop i xs) (drop i ys) ≡ woven xs ys
    → now ++ woven (drop (i + 1) xs) (drop (i + 1) ys) ≡ woven xs ys
woven_turn_of xs ys made half now i x y at_x at_y =
    woven_turn xs ys made half now i x y (slice_get_within xs i x at_x) (slice_get_within ys i y at_y) (sym (get_or_from_slice_get xs i x x at_x)) (sym (get_or_from_slice_get ys i y y at_y))

pub woven_rest : {X : Type 0} (xs ys made now more : List X) (i m n : ℕ) → length ys ≤ i → m ≡ i → n ≡ length xs → more ≡ slice_range xs m n → now ≡ made ++ more → made ++ woven (drop i xs) (drop i ys) ≡ woven xs ys → now ≡ woven xs ys
woven_rest xs ys made now more i m n h start end part push so_far =
    let rest : more ≡ drop i xs = part ∙ ap (λ k. slice_range xs k n) start ∙ ap (λ k. slice_range xs i k) end ∙ take_rest xs i in
    woven_end xs ys made now more i h rest push so_far
