-- Pairs of the elements of two lists.
use Rattle.std.proofs.Common.{◌≡◌, ℕ, zero, suc, ◌+◌, ◌≤◌, List, [], ◌∷◌, ◌++◌, length, map, take, refl, ap, sym, ◌∙◌, arith, Some, slice_get}
use Rattle.std.proofs.lemmas.List.{map-append, take_all}
use Rattle.nesl_values.specs.Tree.{ValueTree, pair, sequence, size, sizes, trees_of}
use Rattle.nesl_seqs_base.specs.Pairs.{pairs}

sizes_pairs : (ts us : List ValueTree) → length ts ≡ length us → sizes (trees_of (pairs ts us)) ≡ length ts + (sizes (trees_of ts) + sizes (trees_of us))
sizes_pairs [] [] h = refl
sizes_pairs [] (u ∷ us) h = absurd (omega arith)
sizes_pairs (t ∷ ts) [] h = absurd (omega arith)
sizes_pairs (t ∷ ts) (u ∷ us) h = omega (arith, sizes_pairs ts us (omega arith))

pub size_pairs : (ts us : List ValueTree) → length ts ≡ length us → size (sequence (pairs ts us)) ≡ 1 + length ts + (sizes (trees_of ts) + sizes (trees_of us))
size_pairs ts us h = omega (arith, sizes_pairs ts us h)

next_pair : (ts us : List ValueTree) (i : ℕ) (t u : ValueTree) → slice_get ts i ≡ Some t → slice_get us i ≡ Some u → take (suc i) (pairs ts us) ≡ take i (pairs ts us) ++ pair t u ∷ []
next_pair [] us i t u p q = absurd (cc p)
next_pair (x ∷ ts) [] i t u p q = absurd (cc q)
next_pair (x ∷ ts) (y ∷ us) zero t u p q =
    let left : x ≡ t = cc p in
    let right : y ≡ u = cc q in
    ap (λ v. pair v y ∷ []) left ∙ ap (λ v. pair t v ∷ []) right
next_pair (x ∷ ts) (y ∷ us) (suc i) t u p q = ap (λ vs. pair x y ∷ vs) (next_pair ts us i t u p q)

pub pair_pushed : {X : Type 0} (f : X → ValueTree) (ts us : List ValueTree) (i : ℕ) (t u : ValueTree) (old new : List X) (x : X) → slice_get ts i ≡ Some t → slice_get us i ≡ Some u → map f old ≡ take i (pairs ts us) → new ≡ old ++ x ∷ [] → f x ≡ pair t u
    → map f new ≡ take (i + 1) (pairs ts us)
pair_pushed f ts us i t u old new x p q before push is =
    let next : suc i ≡ i + 1 = omega arith in
    ap (map f) push ∙ map-append f old (x ∷ []) ∙ ap (λ vs. vs ++ f x ∷ []) before ∙ ap (λ v. take i (pairs ts us) ++ v ∷ []) is ∙ sym (next_pair ts us i t u p q) ∙ ap (λ k. take k (pairs ts us)) next

length_pairs : (ts us : List ValueTree) → length ts ≡ length us → length (pairs ts us) ≡ length ts
length_pairs [] us h = refl
length_pairs (t ∷ ts) [] h = absurd (omega arith)
length_pairs (t ∷ ts) (u ∷ us) h = ap suc (length_pairs ts us (omega arith))

pub all_pairs : (ts us : List ValueTree) (n : ℕ) → length ts ≡ length us → length ts ≤ n → take n (pairs ts us) ≡ pairs ts us
all_pairs ts us n h l = take_all n (pairs ts us) (omega (arith, length_pairs ts us h))
