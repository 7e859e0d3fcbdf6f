-- The elements that have a truth value beside them.
use mathlib.Core.Bool.{beq}
use Rattle.nesl_scalars.specs.declared.trap.Trap.TheVariants.{Length}
use Rattle.std.proofs.lemmas.Bool.{eq-eqb}
use Rattle.std.proofs.lemmas.Bool.Decides.{Decides-eqb}
use Rattle.nesl_seqs_base.specs.Outcome.{gives, traps}
use Rattle.nesl_seqs_base.proofs.Shapes.{false_if_not}
use Rattle.std.proofs.Common.{◌≡◌, nat_eq, ◌⊎◌, inl, inr, ℕ, ◌+◌, ◌<◌, ◌≤◌, min, Bool, true, false, cond, List, [], ◌∷◌, ◌++◌, length, map, drop, get_or, refl, ap, sym, ◌∙◌, arith}
use Rattle.std.proofs.lemmas.Bool.{cases_lt}
use Rattle.std.proofs.lemmas.List.{drop_more, drop_all, append_assoc, append-nil}
use Rattle.nesl_values.specs.Tree.{ValueTree, size, sizes, trees_of}
use Rattle.nesl_seqs_base.specs.Equal.{bool_eq}
use Rattle.nesl_seqs_base.specs.Pieces.{sequence_of_two}
use Rattle.nesl_seqs_base.specs.Sides.{marked, split_apart}

beside_next : {X : Type 0} (b c : Bool) (x : X) (xs : List X) (cs : List Bool) → marked b (x ∷ xs) (c ∷ cs) ≡ cond (bool_eq b c) (x ∷ marked b xs cs) (marked b xs cs)
beside_next true true x xs cs = refl
beside_next true false x xs cs = refl
beside_next false true x xs cs = refl
beside_next false false x xs cs = refl

pub map_beside : {X Y : Type 0} (f : X → Y) (b : Bool) (xs : List X) (cs : List Bool) → map f (marked b xs cs) ≡ marked b (map f xs) cs
map_beside f b [] cs = refl
map_beside f b (x ∷ xs) [] = refl
map_beside f true (x ∷ xs) (true ∷ cs) = ap (λ ys. f x ∷ ys) (map_beside f true xs cs)
map_beside f true (x ∷ xs) (false ∷ cs) = map_beside f true xs cs
map_beside f false (x ∷ xs) (true ∷ cs) = map_beside f false xs cs
map_beside f false (x ∷ xs) (false ∷ cs) = ap (λ ys. f x ∷ ys) (map_beside f false xs cs)

pub sizes_beside_le : (b : Bool) (ts : List ValueTree) (cs : List Bool) → sizes (trees_of (marked b ts cs)) ≤ sizes (trees_of ts)
sizes_beside_le b [] cs = omega arith
sizes_beside_le b (t ∷ ts) [] = omega arith
sizes_beside_le true (t ∷ ts) (true ∷ cs) = omega (arith, sizes_beside_le true ts cs)
sizes_beside_le true (t ∷ ts) (false ∷ cs) = omega (arith, sizes_beside_le true ts cs)
sizes_beside_le false (t ∷ ts) (true ∷ cs) = omega (arith, sizes_beside_le false ts cs)
sizes_beside_le false (t ∷ ts) (false ∷ cs) = omega (arith, sizes_beside_le false ts cs)

sizes_beside : (ts : List ValueTree) (cs : List Bool) → length ts ≡ length cs → sizes (trees_of (marked false ts cs)) + sizes (trees_of (marked true ts cs)) ≡ sizes (trees_of ts)
sizes_beside [] cs h = refl
sizes_beside (t ∷ ts) [] h = absurd (omega arith)
sizes_beside (t ∷ ts) (true ∷ cs) h = omega (arith, sizes_beside ts cs (omega arith))
sizes_beside (t ∷ ts) (false ∷ cs) h = omega (arith, sizes_beside ts cs (omega arith))

pub size_beside : (ts : List ValueTree) (cs : List Bool) → length ts ≡ length cs → size (sequence_of_two (marked false ts cs) (marked true ts cs)) ≡ 3 + sizes (trees_of ts)
size_beside ts cs h = omega (arith, sizes_beside ts cs h)

pub drop_some : {X : Type 0} (xs : List X) (i : ℕ) → i < length xs → (P : Type 0) → ((x : X) → drop i xs ≡ x ∷ drop (i + 1) xs → P) → P
drop_some [] i h P k = absurd (omega arith)
drop_some (x ∷ xs) i h P k = k (get_or (x ∷ xs) i x) (drop_more (x ∷ xs) i x h)

beside_from : {X : Type 0} (b : Bool) (xs : List X) (cs : List Bool) (i : ℕ) (x : X) → drop i xs ≡ x ∷ drop (i + 1) xs → i < length cs
    → marked b (drop i xs) (drop i cs) ≡ cond (bool_eq b (get_or cs i false)) (x ∷ marked b (drop (i + 1) xs) (drop (i + 1) cs)) (marked b (drop (i + 1) xs) (drop (i + 1) cs))
beside_from b xs cs i x at h =
    ap (λ ys. marked b ys (drop i cs)) at ∙ ap (marked b (x ∷ drop (i + 1) xs)) (drop_more cs i false h) ∙ beside_next b (get_or cs i false) x (drop (i + 1) xs) (drop (i + 1) cs)

either_way : (b c : Bool) → beq c b ≡ bool_eq b c
either_way true true = refl
either_way true false = refl
either_way false true = refl
either_way false false = refl

-- one more turn of a loop, where the item is kept, and where it is not
pub kept_turn : {X : Type 0} (b : Bool) (xs made now all : List X) (cs : List Bool) (i : ℕ) (x : X) → i < length xs → i < length cs → x ≡ get_or xs i x → beq (get_or cs i false) b ≡ true → now ≡ made ++ x ∷ []
    → made ++ marked b (drop i xs) (drop i cs) ≡ all → now ++ marked b (drop (i + 1) xs) (drop (i + 1) cs) ≡ all
kept_turn b xs made now all cs i x h k at same push so_far =
    let rest = marked b (drop (i + 1) xs) (drop (i + 1) cs) in
    let passes : bool_eq b (get_or cs i false) ≡ true = sym (either_way b (get_or cs i false)) ∙ same in
    let first : drop i xs ≡ x ∷ drop (i + 1) xs = drop_more xs i x h ∙ ap (λ y. y ∷ drop (i + 1) xs) (sym at) in
    ap (λ ys. ys ++ rest) push ∙ append_assoc made (x ∷ []) rest ∙ ap (λ ys. made ++ ys) (ap (λ d. cond d (x ∷ rest) rest) (sym passes) ∙ sym (beside_from b xs cs i x first k)) ∙ so_far

pub passed_turn : {X : Type 0} (b : Bool) (xs made all : List X) (cs : List Bool) (i : ℕ) → i < length xs → i < length cs → beq (get_or cs i false) b ≡ false
    → made ++ marked b (drop i xs) (drop i cs) ≡ all → made ++ marked b (drop (i + 1) xs) (drop (i + 1) cs) ≡ all
passed_turn b xs made all cs i h k other so_far =
    drop_some xs i h _ (λ x first.
    let rest = marked b (drop (i + 1) xs) (drop (i + 1) cs) in
    let fails : bool_eq b (get_or cs i false) ≡ false = sym (either_way b (get_or cs i false)) ∙ other in
    ap (λ ys. made ++ ys) (ap (λ d. cond d (x ∷ rest) rest) (sym fails) ∙ sym (beside_from b xs cs i x first k)) ∙ so_far)

beside_none : {X : Type 0} (b : Bool) (xs : List X) → marked b xs [] ≡ []
beside_none b [] = refl
beside_none b (x ∷ xs) = refl

nothing_left : {X : Type 0} (b : Bool) (xs : List X) (cs : List Bool) (i : ℕ) → (length xs ≤ i) ⊎ (length cs ≤ i) → marked b (drop i xs) (drop i cs) ≡ []
nothing_left b xs cs i (inl h) = ap (λ ys. marked b ys (drop i cs)) (drop_all i xs h)
nothing_left b xs cs i (inr h) = ap (marked b (drop i xs)) (drop_all i cs h) ∙ beside_none b (drop i xs)

one_ended : (m n i : ℕ) → min m n ≤ i → (m ≤ i) ⊎ (n ≤ i)
one_ended m n i h = one (cases_lt i m) (cases_lt i n)
  where
    one : (i < m) ⊎ (m ≤ i) → (i < n) ⊎ (n ≤ i) → (m ≤ i) ⊎ (n ≤ i)
    one (inr k) o = inl k
    one (inl k) (inr l) = inr l
    one (inl k) (inl l) = absurd (omega arith)

pub beside_end : {X : Type 0} (b : Bool) (xs made : List X) (all : List X) (cs : List Bool) (i : ℕ) → min (length xs) (length cs) ≤ i → made ++ marked b (drop i xs) (drop i cs) ≡ all → made ≡ all
beside_end b xs made all cs i h so_far =
    sym (append-nil made) ∙ ap (λ ys. made ++ ys) (sym (nothing_left b xs cs i (one_ended (length xs) (length cs) i h))) ∙ so_far

pub split_given : (ts : List ValueTree) (bs : List Bool) → length ts ≡ length bs → split_apart ts bs ≡ gives (sequence_of_two (marked false ts bs) (marked true ts bs))
split_given ts bs h = rw (eq-eqb (length ts) (length bs) h) refl

pub split_refused : (ts : List ValueTree) (bs : List Bool) → (length ts ≡ length bs → ⊥) → split_apart ts bs ≡ traps Length
split_refused ts bs h =
    let differ : nat_eq (length ts) (length bs) ≡ false = false_if_not (nat_eq (length ts) (length bs)) (λ e. h ((Decides-eqb (length ts) (length bs)).0 e)) in
    rw differ refl
