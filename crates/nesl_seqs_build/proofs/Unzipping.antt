-- Sequences that are taken apart in two.
use Rattle.std.proofs.Common.{◌≡◌, ℕ, ◌+◌, Option, Result, Ok, Err, IfOk, get_or, slice_get, take, ◌++◌, List, [], ◌∷◌, length, map, Some, ap, sym, ◌∙◌, arith}
use Rattle.nesl_values.specs.Tree.{ValueTree, int, boolean, character, pair, seq, tagged, size, sizes, trees_of}
use Rattle.nesl_values.specs.Tree.{sequence}
use Rattle.std.proofs.lemmas.List.{take_more, map-append, append_assoc}
use Rattle.std.proofs.lemmas.Option.{slice_get_within, get_or_from_slice_get}
use Rattle.std.proofs.lemmas.Result.{IfOk-at_ok, IfOk-weaker}
use Rattle.nesl_values.specs.Parts.{as_pair}
use Rattle.nesl_values.specs.View.{tree_of}
use Rattle.nesl_values.specs.declared.value.Value.{Value}
use Rattle.nesl_seqs_base.specs.Reductions.{all_of}
use Rattle.nesl_seqs_base.proofs.Shapes.{first_read}

size_pair : (t : ValueTree) (p : ValueTree × ValueTree) → as_pair t ≡ Some p → size t ≡ 1 + (size p.0 + size p.1)
size_pair (pair l r) p h =
    let left : l ≡ p.0 = cc h in
    let right : r ≡ p.1 = cc h in
    omega (arith, ap size left, ap size right)
size_pair (seq ts) p h = absurd (cc h)
size_pair (int n) p h = absurd (cc h)
size_pair (boolean b) p h = absurd (cc h)
size_pair (character c) p h = absurd (cc h)
size_pair (tagged n t) p h = absurd (cc h)

sizes_sides : (ts : List ValueTree) (ps : List (ValueTree × ValueTree)) → all_of as_pair ts ≡ Some ps → length ts + (sizes (trees_of (map (λ p. p.0) ps)) + sizes (trees_of (map (λ p. p.1) ps))) ≡ sizes (trees_of ts)
sizes_sides [] ps h =
    let none : ps ≡ [] = cc h in
    ap (λ qs. 0 + (sizes (trees_of (map (λ (q : ValueTree × ValueTree). q.0) qs)) + sizes (trees_of (map (λ (q : ValueTree × ValueTree). q.1) qs)))) none
sizes_sides (t ∷ ts) ps h =
    first_read (as_pair t) (all_of as_pair ts) ps h _ (λ q qs first rest is.
    let left : sizes (trees_of (map (λ (p : ValueTree × ValueTree). p.0) ps)) ≡ size q.0 + sizes (trees_of (map (λ (p : ValueTree × ValueTree). p.0) qs)) = ap (λ rs. sizes (trees_of (map (λ (p : ValueTree × ValueTree). p.0) rs))) is in
    let right : sizes (trees_of (map (λ (p : ValueTree × ValueTree). p.1) ps)) ≡ size q.1 + sizes (trees_of (map (λ (p : ValueTree × ValueTree). p.1) qs)) = ap (λ rs. sizes (trees_of (map (λ (p : ValueTree × ValueTree). p.1) rs))) is in
    omega (arith, left, right, size_pair t q first, sizes_sides ts qs rest))

pub size_unzipped : (ts : List ValueTree) (ps : List (ValueTree × ValueTree)) → all_of as_pair ts ≡ Some ps → size (pair (sequence (map (λ p. p.0) ps)) (sequence (map (λ p. p.1) ps))) + length ts ≡ 3 + sizes (trees_of ts)
size_unzipped ts ps h = omega (arith, sizes_sides ts ps h)

-- one more turn of a loop that adds a side of each pair
pub side_turn : (side : ValueTree × ValueTree → ValueTree) (ps : List (ValueTree × ValueTree)) (i : ℕ) (p : ValueTree × ValueTree) (old so_far now : List ValueTree) (x : ValueTree) → slice_get ps i ≡ Some p → so_far ≡ old ++ map side (take i ps) → now ≡ so_far ++ x ∷ [] → x ≡ side p → now ≡ old ++ map side (take (i + 1) ps)
side_turn side ps i p old so_far now x at before push is =
    let split : map side (take (i + 1) ps) ≡ map side (take i ps) ++ side p ∷ [] =
    ap (map side) (take_more ps i p (slice_get_within ps i p at)) ∙ map-append side (take i ps) (get_or ps i p ∷ []) ∙ ap (λ q. map side (take i ps) ++ side q ∷ []) (get_or_from_slice_get ps i p p at) in
    push ∙ ap (λ ts. ts ++ x ∷ []) before ∙ append_assoc old (map side (take i ps)) (x ∷ []) ∙ ap (λ y. old ++ (map side (take i ps) ++ y ∷ [])) is ∙ ap (λ ts. old ++ ts) (sym split)

-- what holds of every list of pairs holds of the one that there is
pub sides_made : {A E : Type 0} (r : Result (Value A) E) (o : Option (List (ValueTree × ValueTree))) → ((ps : List (ValueTree × ValueTree)) → o ≡ Some ps → IfOk r (λ v. tree_of v ≡ pair (sequence (map (λ p. p.0) ps)) (sequence (map (λ p. p.1) ps))))
    → IfOk r (λ v. (ps : List (ValueTree × ValueTree)) → o ≡ Some ps → tree_of v ≡ pair (sequence (map (λ p. p.0) ps)) (sequence (map (λ p. p.1) ps)))
sides_made (Ok v) o all = all
sides_made (Err e) o all = tt

-- the pair of what was made on both sides
pub pair_alike : {A E : Type 0} (r lefts rights : Result (Value A) E) (left right : Value A) (a b : ValueTree) → lefts ≡ Ok left → rights ≡ Ok right → IfOk r (λ v. tree_of v ≡ pair (tree_of left) (tree_of right)) → IfOk lefts (λ v. tree_of v ≡ a) → IfOk rights (λ v. tree_of v ≡ b)
    → IfOk r (λ v. tree_of v ≡ pair a b)
pair_alike r lefts rights left right a b p q made first second =
    let one : tree_of left ≡ a = IfOk-at_ok (λ v. tree_of v ≡ a) p first in
    let other : tree_of right ≡ b = IfOk-at_ok (λ v. tree_of v ≡ b) q second in
    IfOk-weaker r (λ v. tree_of v ≡ pair (tree_of left) (tree_of right)) (λ v. tree_of v ≡ pair a b) (λ v h. h ∙ ap (λ t. pair t (tree_of right)) one ∙ ap (pair a) other) made
