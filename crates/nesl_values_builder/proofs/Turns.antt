-- Loops that add to a list.
use Rattle.std.proofs.Common.{◌≡◌, ℕ, ◌+◌, ◌<◌, ◌≤◌, List, [], ◌∷◌, ◌++◌, length, map, take, ap, ◌∙◌, sym, append_assoc, get_or}
use Rattle.std.proofs.lemmas.List.{map-append, take_more, take-append-le}

-- one more turn of a loop that adds to a list what `g` sees in `zs`
pub added_turn : {X Y T : Type 0} (f : X → T) (g : Y → T) (old xs ys : List X) (x : X) (zs : List Y) (i : ℕ) (y : Y) → i < length zs → y ≡ get_or zs i y → ys ≡ xs ++ x ∷ [] → map f xs ≡ map f old ++ map g (take i zs) → f x ≡ g y
    → map f ys ≡ map f old ++ map g (take (i + 1) zs)
added_turn f g old xs ys x zs i y h at push so_far here =
    let more : map g (take (i + 1) zs) ≡ map g (take i zs) ++ f x ∷ [] = ap (map g) (take_more zs i y h) ∙ map-append g (take i zs) (get_or zs i y ∷ []) ∙ ap (λ t. map g (take i zs) ++ t ∷ []) (sym (here ∙ ap g at)) in
    ap (map f) push ∙ map-append f xs (x ∷ []) ∙ ap (λ ts. ts ++ f x ∷ []) so_far ∙ append_assoc (map f old) (map g (take i zs)) (f x ∷ []) ∙ ap (λ ts. map f old ++ ts) (sym more)

-- what was there before the loop stays at the front
pub kept_turn : {X : Type 0} (n : ℕ) (old xs ys : List X) (x : X) → n ≤ length xs → ys ≡ xs ++ x ∷ [] → take n xs ≡ old → take n ys ≡ old
kept_turn n old xs ys x h push so_far = ap (take n) push ∙ take-append-le n xs (x ∷ []) h ∙ so_far
