-- Pairs of the values at turns.
use Rattle.std.proofs.Common.{◌≡◌, ℕ, ℤ, zero, suc, ◌+◌, ◌<◌, ◌≤◌, Bool, List, [], ◌∷◌, ◌++◌, map, length, length-drop, drop, set, get_or, append-nil, Some, refl, sym, ap, ◌∙◌, subst, arith, append_assoc}
use Rattle.std.specs.Prelude.{slice_get}
use Rattle.std.proofs.lemmas.Option.{same_Some, none-some}
use Rattle.std.proofs.lemmas.List.{length-map}
use Rattle.nesl_values.specs.Tree.{int, boolean, character, pair, size}
use Rattle.nesl_eval_meaning.specs.Names.{Value}
use Rattle.nesl_eval_columns.specs.declared.column.Column.{Column}
use Rattle.nesl_eval_columns.specs.declared.column.Column.TheVariants.{Ints, Bools, Chars}
use Rattle.nesl_eval_columns.specs.Columns.{leaves_of}
use Rattle.nesl_eval_column_results.specs.Values.{pairs_of, AreOfSize}

-- how many nodes values have
pub sized_at : (n : ℕ) (xs : List Value) (k : ℕ) (x : Value) → AreOfSize n xs → slice_get xs k ≡ Some x → size x ≡ n
sized_at n [] k x h e = absurd (none-some x e)
sized_at n (a ∷ xs) zero x h e = subst (λ u. size u ≡ n) (same_Some a x e) h.0
sized_at n (a ∷ xs) (suc k) x h e = sized_at n xs k x h.1 e

ints_sized : (xs : List ℤ) → AreOfSize 1 (map int xs)
ints_sized [] = tt
ints_sized (x ∷ xs) = (refl, ints_sized xs)

bools_sized : (xs : List Bool) → AreOfSize 1 (map boolean xs)
bools_sized [] = tt
bools_sized (x ∷ xs) = (refl, bools_sized xs)

chars_sized : (xs : List ℕ) → AreOfSize 1 (map character xs)
chars_sized [] = tt
chars_sized (x ∷ xs) = (refl, chars_sized xs)

pub leaves_sized : {A : Type 0} (c : Column A) → AreOfSize 1 (leaves_of c)
leaves_sized (Ints v) = ints_sized v.items
leaves_sized (Bools v) = bools_sized v.items
leaves_sized (Chars v) = chars_sized v.items

-- what is taken out at a turn, and what is left after it
pub taken_out : {X : Type 0} (f : X → Value) (xs : List X) (i : ℕ) (d y : X) → i < length xs → drop i (map f xs) ≡ f (get_or xs i d) ∷ drop (i + 1) (map f (set xs i y))
taken_out f [] i d y h = absurd (omega arith)
taken_out f (x ∷ xs) zero d y h = refl
taken_out f (x ∷ xs) (suc i) d y h =
    let next : suc (i + 1) ≡ suc i + 1 = omega arith in
    taken_out f xs i d y (omega arith) ∙ ap (λ n. f (get_or xs i d) ∷ drop n (f x ∷ map f (set xs i y))) next

-- one more pair
pub next_pair : (made more xs xs' ys ys' all : List Value) (x y : Value) → more ≡ made ++ pair x y ∷ [] → xs ≡ x ∷ xs' → ys ≡ y ∷ ys' → made ++ pairs_of xs ys ≡ all → more ++ pairs_of xs' ys' ≡ all
next_pair made more xs xs' ys ys' all x y m e f h =
    ap (λ us. us ++ pairs_of xs' ys') m ∙ append_assoc made (pair x y ∷ []) (pairs_of xs' ys')
    ∙ ap (λ us. made ++ pairs_of us (y ∷ ys')) (sym e) ∙ ap (λ us. made ++ pairs_of xs us) (sym f) ∙ h

-- one more value
pub next_value : (made more xs xs' all : List Value) (x : Value) → more ≡ made ++ x ∷ [] → xs ≡ x ∷ xs' → made ++ xs ≡ all → more ++ xs' ≡ all
next_value made more xs xs' all x m e h =
    ap (λ us. us ++ xs') m ∙ append_assoc made (x ∷ []) xs' ∙ ap (λ us. made ++ us) (sym e) ∙ h

-- none is left
pub all_paired : (made xs ys all : List Value) → length xs ≡ 0 → made ++ pairs_of xs ys ≡ all → made ≡ all
all_paired made [] ys all h e = sym (append-nil made) ∙ e
all_paired made (x ∷ xs) ys all h e = absurd (omega arith)

pub all_added : (made xs all : List Value) → length xs ≡ 0 → made ++ xs ≡ all → made ≡ all
all_added made [] all h e = sym (append-nil made) ∙ e
all_added made (x ∷ xs) all h e = absurd (omega arith)

pub none_past : {X : Type 0} (f : X → Value) (xs : List X) (i : ℕ) → length xs ≤ i → length (drop i (map f xs)) ≡ 0
none_past f xs i h = omega (arith, length-drop i (map f xs), length-map xs f)
