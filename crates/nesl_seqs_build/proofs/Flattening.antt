-- Sequences of sequences.
use Rattle.std.proofs.Common.{◌≡◌, ℕ, ◌+◌, ◌<◌, get_or, take, List, [], ◌∷◌, ◌++◌, length, map, Option, Some, None, IsSome, refl, ap, sym, ◌∙◌, arith}
use Rattle.std.specs.List.{flat_map}
use Rattle.std.proofs.lemmas.List.{take_more, append-nil, length-map}
use Rattle.std.proofs.lemmas.List.Concat.{flat_map-append}
use Rattle.nesl_values.specs.Tree.{ValueTree, int, boolean, character, pair, seq, tagged, size, sizes, trees_of}
use Rattle.nesl_values.specs.Parts.{as_sequence, list_of, elements}
use Rattle.nesl_seqs_base.specs.Reductions.{all_of}
use Rattle.nesl_seqs_base.proofs.Totals.{sizes_append}
use Rattle.nesl_seqs_base.proofs.Sizes.{sizes_list}
use Rattle.nesl_seqs_base.proofs.Shapes.{first_read}

size_sequence : (t : ValueTree) (us : List ValueTree) → as_sequence t ≡ Some us → size t ≡ 1 + sizes (trees_of us)
size_sequence (seq ts) us h =
    let is : list_of ts ≡ us = cc h in
    omega (arith, sizes_list ts, ap (λ vs. sizes (trees_of vs)) is)
size_sequence (int n) us h = absurd (cc h)
size_sequence (boolean b) us h = absurd (cc h)
size_sequence (character c) us h = absurd (cc h)
size_sequence (pair l r) us h = absurd (cc h)
size_sequence (tagged n t) us h = absurd (cc h)

pub size_flattened : (ts : List ValueTree) (tss : List (List ValueTree)) → all_of as_sequence ts ≡ Some tss → length ts + sizes (trees_of (flat_map (λ us. us) tss)) ≡ sizes (trees_of ts)
size_flattened [] tss h =
    let none : tss ≡ [] = cc h in
    ap (λ uss. 0 + sizes (trees_of (flat_map (λ us. us) uss))) none
size_flattened (t ∷ ts) tss h =
    first_read (as_sequence t) (all_of as_sequence ts) tss h _ (λ us uss first rest is.
    let split : sizes (trees_of (flat_map (λ vs. vs) tss)) ≡ sizes (trees_of (us ++ flat_map (λ vs. vs) uss)) = ap (λ vss. sizes (trees_of (flat_map (λ vs. vs) vss))) is in
    omega (arith, split, sizes_append us (flat_map (λ vs. vs) uss), size_sequence t us first, size_flattened ts uss rest))

elements_read : (t : ValueTree) (us : List ValueTree) → as_sequence t ≡ Some us → elements t ≡ us
elements_read t us h = rw h refl

-- the elements of all are those of the sequences that are read
pub elements_of_all : {V : Type 0} (f : V → ValueTree) (vs : List V) (tss : List (List ValueTree)) → all_of as_sequence (map f vs) ≡ Some tss → flat_map (λ v. elements (f v)) vs ≡ flat_map (λ us. us) tss
elements_of_all f [] tss h =
    let none : tss ≡ [] = cc h in
    ap (flat_map (λ us. us)) (sym none)
elements_of_all f (v ∷ vs) tss h =
    first_read (as_sequence (f v)) (all_of as_sequence (map f vs)) tss h _ (λ us uss first rest is.
    ap (λ ws. ws ++ flat_map (λ w. elements (f w)) vs) (elements_read (f v) us first) ∙ ap (λ ws. us ++ ws) (elements_of_all f vs uss rest) ∙ ap (flat_map (λ ws. ws)) (sym is))

-- one more turn of a loop that adds what `f` gives of each item
pub flat_turn : {X : Type 0} (f : X → List ValueTree) (xs : List X) (i : ℕ) (x : X) (so_far now more : List ValueTree) → i < length xs → x ≡ get_or xs i x → so_far ≡ flat_map f (take i xs) → now ≡ so_far ++ more → more ≡ f x → now ≡ flat_map f (take (i + 1) xs)
flat_turn f xs i x so_far now more h at before push is =
    let split : flat_map f (take (i + 1) xs) ≡ flat_map f (take i xs) ++ f x =
    ap (flat_map f) (take_more xs i x h) ∙ flat_map-append f (take i xs) (get_or xs i x ∷ []) ∙ ap (λ ts. flat_map f (take i xs) ++ ts) (append-nil (f (get_or xs i x))) ∙ ap (λ y. flat_map f (take i xs) ++ f y) (sym at) in
    push ∙ ap (λ ts. ts ++ more) before ∙ ap (λ ts. flat_map f (take i xs) ++ ts) is ∙ sym split

pub size_elements : {V : Type 0} (f : V → ValueTree) (vs : List V) → IsSome (all_of as_sequence (map f vs)) → length vs + sizes (trees_of (flat_map (λ v. elements (f v)) vs)) ≡ sizes (trees_of (map f vs))
size_elements f vs some = by (all_of as_sequence (map f vs)) refl some
  where
    by : (o : Option (List (List ValueTree))) → all_of as_sequence (map f vs) ≡ o → IsSome o → length vs + sizes (trees_of (flat_map (λ v. elements (f v)) vs)) ≡ sizes (trees_of (map f vs))
    by None e h = absurd (cc h)
    by (Some tss) e h =
        omega (arith, ap (λ us. sizes (trees_of us)) (elements_of_all f vs tss e), size_flattened (map f vs) tss e, length-map vs f)
