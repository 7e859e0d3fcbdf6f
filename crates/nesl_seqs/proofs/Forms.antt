-- What the functions evaluate to, by what the words of their definitions mean.
use Rattle.std.proofs.Common.{◌≡◌, ◌⊎◌, inl, inr, ℕ, ℤ, pos, negsuc, ◌+◌, ◌-◌, ◌≤◌, Bool, true, false, ◌||◌, cond, nat_eq, nat_le, List, [], ◌∷◌, ◌++◌, length, map, zip, take, drop, refl, ap, sym, subst, ◌∙◌, arith, Some, option_map, slice_get}
use Rattle.std.specs.Prelude.{unsigned_abs, ◌≤ℤ◌, ◌<ℤ◌}
use Rattle.std.proofs.lemmas.Int.{ints}
use Rattle.std.proofs.lemmas.Bool.Decides.{nat_tests}
use Rattle.std.proofs.lemmas.List.{length-drop, length-take-le, take-append-drop}
use Rattle.nesl_scalars.specs.declared.trap.Trap.{Trap}
use Rattle.nesl_scalars.specs.declared.trap.Trap.TheVariants.{Range, Length, Count}
use Rattle.nesl_values.specs.Tree.{ValueTree, int, boolean, pair, sequence, trees_of}
use Rattle.nesl_values.specs.Parts.{list_of, as_int, as_pair, as_sequence, elements}
use Rattle.nesl_seqs_base.specs.Arguments.{both_parts}
use Rattle.nesl_seqs_base.specs.Outcome.{gives, if_there, traps}
use Rattle.nesl_seqs_base.specs.Levels.{sequence_and_numbers, are_lengths, pieces, partitioned, flattened}
use Rattle.nesl_seqs_base.specs.Meaning.{outcome_of}
use Rattle.nesl_seqs_base.specs.Pairs.{pairs, zipped}
use Rattle.nesl_seqs_base.specs.Permute.{permuted}
use Rattle.nesl_seqs_base.specs.Pieces.{taken, dropped}
use Rattle.nesl_seqs_base.specs.Reductions.{all_of}
use Rattle.nesl_seqs_base.specs.Sides.{unzipped}
use Rattle.nesl_seqs_base.specs.Woven.{evens, odds, woven, even_elements, odd_elements, interleaved}
use Rattle.nesl_seqs_base.specs.declared.seq_fn.SeqFn.TheVariants as function
use Rattle.nesl_seqs.specs.Laws.{TakenAndDropped, EveryOther, Woven, Zipped, Cut, PlacesOfPermute, ToldEqual}
use Rattle.nesl_seqs_base.proofs.Equality.{tree_eq_is}
use Rattle.nesl_seqs_base.proofs.Shapes.{leaves_read}
use Rattle.nesl_seqs_base.proofs.Weaving.{even_places, odd_places, woven_apart}
use Rattle.nesl_seqs_build.proofs.Cutting.{pieces_joined, pieces_lengths}
use Rattle.nesl_seqs_index.proofs.Marking.{are_equal}
use Rattle.nesl_seqs.proofs.Moves.{list_back, same_elements}
use Rattle.nesl_seqs.proofs.Standing.{stands_where_told}

-- what is given under a test has passed it
passed : (b : Bool) (t u : ValueTree) (e : Trap) → cond b (gives t) (traps e) ≡ gives u → (b ≡ true) × (gives t ≡ gives u)
passed true t u e h = (refl, h)
passed false t u e h = absurd (cc h)

cut_in_two : (ts us vs : List ValueTree) (k : ℤ) → taken ts k ≡ gives (sequence us) → dropped ts k ≡ gives (sequence vs) → (length us ≡ unsigned_abs k) × (pos 0 ≤ℤ k → us ++ vs ≡ ts) × (k <ℤ pos 0 → vs ++ us ≡ ts)
cut_in_two ts us vs (pos k) p q =
    let first = passed (nat_le k (length ts)) (sequence (take k ts)) (sequence us) Range p in
    let others = passed (nat_le k (length ts)) (sequence (drop k ts)) (sequence vs) Range q in
    let front : take k ts ≡ us = same_elements _ _ first.1 in
    let back : drop k ts ≡ vs = same_elements _ _ others.1 in
    let test : nat_le k (length ts) ≡ true = first.0 in
    let within : k ≤ length ts = grind (arith, nat_tests) in
    (sym (ap length front) ∙ length-take-le k ts within, λ h. sym (ap (λ xs. xs ++ vs) front) ∙ sym (ap (λ xs. take k ts ++ xs) back) ∙ take-append-drop k ts, λ h. absurd (omega (arith, ints, h)))
cut_in_two ts us vs (negsuc k) p q =
    let start = length ts - (k + 1) in
    let first = passed (nat_le (k + 1) (length ts)) (sequence (drop start ts)) (sequence us) Range p in
    let others = passed (nat_le (k + 1) (length ts)) (sequence (take start ts)) (sequence vs) Range q in
    let back : drop start ts ≡ us = same_elements _ _ first.1 in
    let front : take start ts ≡ vs = same_elements _ _ others.1 in
    let test : nat_le (k + 1) (length ts) ≡ true = first.0 in
    let within : k + 1 ≤ length ts = grind (arith, nat_tests) in
    (sym (ap length back) ∙ length-drop start ts ∙ omega (arith, within), λ h. absurd (omega (arith, ints, h)), λ h. sym (ap (λ xs. xs ++ us) front) ∙ sym (ap (λ xs. take start ts ++ xs) back) ∙ take-append-drop start ts)

pub taken_and_dropped : TakenAndDropped
taken_and_dropped ts us vs k p q = cut_in_two ts us vs k (subst (λ xs. taken xs k ≡ gives (sequence us)) (list_back ts) p) (subst (λ xs. dropped xs k ≡ gives (sequence vs)) (list_back ts) q)

pub every_other : EveryOther
every_other ts us vs j p q =
    let even : evens ts ≡ us = same_elements _ _ (subst (λ xs. even_elements xs ≡ gives (sequence us)) (list_back ts) p) in
    let odd : odds ts ≡ vs = same_elements _ _ (subst (λ xs. odd_elements xs ≡ gives (sequence vs)) (list_back ts) q) in
    (sym (ap (λ xs. slice_get xs j) even) ∙ even_places ts j, sym (ap (λ xs. slice_get xs j) odd) ∙ odd_places ts j)

-- what a tree is that is given
given_tree : (t u : ValueTree) → gives t ≡ gives u → t ≡ u
given_tree t u h = cc h

equal_or_one_more : (a b : ℕ) → (nat_eq a b || nat_eq a (b + 1)) ≡ true → (a ≡ b) ⊎ (a ≡ b + 1)
equal_or_one_more a b h = by_test (nat_eq a b) refl h
  where
    by_test : (c : Bool) → nat_eq a b ≡ c → (c || nat_eq a (b + 1)) ≡ true → (a ≡ b) ⊎ (a ≡ b + 1)
    by_test true e p = inl (are_equal a b e)
    by_test false e p = inr (are_equal a (b + 1) p)

weaves : (ts us : List ValueTree) (v : ValueTree) → interleaved ts us ≡ gives v → (outcome_of function.EvenElts v ≡ gives (sequence ts)) × (outcome_of function.OddElts v ≡ gives (sequence us))
weaves ts us v h =
    let p = passed (nat_eq (length ts) (length us) || nat_eq (length ts) (length us + 1)) (sequence (woven ts us)) v Length h in
    let apart = woven_apart ts us (equal_or_one_more (length ts) (length us) p.0) in
    let even : outcome_of function.EvenElts (sequence (woven ts us)) ≡ gives (sequence ts) = ap even_elements (list_back (woven ts us)) ∙ ap (λ xs. gives (sequence xs)) apart.0 in
    let odd : outcome_of function.OddElts (sequence (woven ts us)) ≡ gives (sequence us) = ap odd_elements (list_back (woven ts us)) ∙ ap (λ xs. gives (sequence xs)) apart.1 in
    subst (λ w. (outcome_of function.EvenElts w ≡ gives (sequence ts)) × (outcome_of function.OddElts w ≡ gives (sequence us))) (given_tree _ _ p.1) (even, odd)

pub woven_back : Woven
woven_back ts us v h = weaves ts us v (subst (λ xs. interleaved xs us ≡ gives v) (list_back ts) (subst (λ xs. interleaved (list_of (trees_of ts)) xs ≡ gives v) (list_back us) h))

lefts : (ts us : List ValueTree) → length ts ≡ length us → map (λ p. p.0) (zip ts us) ≡ ts
lefts [] us h = refl
lefts (t ∷ ts) [] h = absurd (omega (arith, h))
lefts (t ∷ ts) (u ∷ us) h = ap (λ xs. t ∷ xs) (lefts ts us (omega (arith, h)))

rights : (ts us : List ValueTree) → length ts ≡ length us → map (λ p. p.1) (zip ts us) ≡ us
rights [] [] h = refl
rights [] (u ∷ us) h = absurd (omega (arith, h))
rights (t ∷ ts) [] h = absurd (omega (arith, h))
rights (t ∷ ts) (u ∷ us) h = ap (λ xs. u ∷ xs) (rights ts us (omega (arith, h)))

all_pairs : (ps : List (ValueTree × ValueTree)) → all_of as_pair (map (λ p. pair p.0 p.1) ps) ≡ Some ps
all_pairs [] = refl
all_pairs (p ∷ ps) = ap (option_map (λ xs. p ∷ xs)) (all_pairs ps)

zips : (ts us : List ValueTree) (v : ValueTree) → zipped ts us ≡ gives v → outcome_of function.Unzip v ≡ gives (pair (sequence ts) (sequence us))
zips ts us v h =
    let p = passed (nat_eq (length ts) (length us)) (sequence (pairs ts us)) v Length h in
    let same : length ts ≡ length us = are_equal (length ts) (length us) p.0 in
    let read : all_of as_pair (list_of (trees_of (pairs ts us))) ≡ Some (zip ts us) = ap (all_of as_pair) (list_back (pairs ts us)) ∙ all_pairs (zip ts us) in
    let sides : unzipped (zip ts us) ≡ gives (pair (sequence ts) (sequence us)) = ap (λ xs. gives (pair (sequence xs) (sequence (map (λ p. p.1) (zip ts us))))) (lefts ts us same) ∙ ap (λ xs. gives (pair (sequence ts) (sequence xs))) (rights ts us same) in
    subst (λ w. outcome_of function.Unzip w ≡ gives (pair (sequence ts) (sequence us))) (given_tree _ _ p.1) (ap (λ o. if_there o unzipped) read ∙ sides)

pub zipped_back : Zipped
zipped_back ts us v h = zips ts us v (subst (λ xs. zipped xs us ≡ gives v) (list_back ts) (subst (λ xs. zipped (list_of (trees_of ts)) xs ≡ gives v) (list_back us) h))

elements_back : (tss : List (List ValueTree)) → map elements (map sequence tss) ≡ tss
elements_back [] = refl
elements_back (ts ∷ tss) = ap (λ us. us ∷ map elements (map sequence tss)) (list_back ts) ∙ ap (λ uss. ts ∷ uss) (elements_back tss)

numbers_read : (ts : List ValueTree) (zs : List ℤ) → sequence_and_numbers (pair (sequence ts) (sequence (map int zs))) ≡ Some (ts, zs)
numbers_read ts zs =
    let read : all_of as_int (list_of (trees_of (map int zs))) ≡ Some zs = ap (all_of as_int) (list_back (map int zs)) ∙ leaves_read as_int int (λ z. refl) zs in
    ap (both_parts (Some (list_of (trees_of ts)))) read ∙ ap (λ xs. Some (xs, zs)) (list_back ts)

cuts : (ts : List ValueTree) (zs : List ℤ) (tss : List (List ValueTree)) → partitioned ts zs ≡ gives (sequence (map sequence tss)) → (outcome_of function.Flatten (sequence (map sequence tss)) ≡ gives (sequence ts)) × (map (λ us. pos (length us)) tss ≡ zs)
cuts ts zs tss h =
    let p = passed (are_lengths (length ts) zs) (sequence (map sequence (pieces ts zs))) (sequence (map sequence tss)) Count h in
    let same : pieces ts zs ≡ tss = sym (elements_back (pieces ts zs)) ∙ ap (map elements) (same_elements _ _ p.1) ∙ elements_back tss in
    let read : all_of as_sequence (list_of (trees_of (map sequence tss))) ≡ Some tss = ap (all_of as_sequence) (list_back (map sequence tss)) ∙ leaves_read as_sequence sequence (λ us. ap Some (list_back us)) tss in
    let joined : flattened tss ≡ gives (sequence ts) = sym (ap flattened same) ∙ ap (λ xs. gives (sequence xs)) (pieces_joined ts zs p.0) in
    (ap (λ o. if_there o flattened) read ∙ joined, sym (ap (map (λ us. pos (length us))) same) ∙ pieces_lengths ts zs p.0)

pub cut_back : Cut
cut_back ts zs tss h = cuts ts zs tss (sym (ap (λ o. if_there o (λ p. partitioned p.0 p.1)) (numbers_read ts zs)) ∙ h)

pub places_of_permute : PlacesOfPermute
places_of_permute ts us vs j k t h at there =
    stands_where_told ts us vs j k t (subst (λ xs. if_there (all_of as_int us) (permuted xs) ≡ gives (sequence vs)) (list_back ts) (subst (λ xs. if_there (all_of as_int xs) (permuted (list_of (trees_of ts))) ≡ gives (sequence vs)) (list_back us) h)) at there

truth : (a b : Bool) → gives (boolean a) ≡ gives (boolean b) → a ≡ b
truth a b h = cc h

pub told_equal : ToldEqual
told_equal t u = (λ h. (tree_eq_is t u).0 (truth _ _ h), λ e. ap (λ b. gives (boolean b)) ((tree_eq_is t u).1 e))
