-- What the answers of comparisons mean.
use Rattle.std.proofs.Common.{◌≡◌, ℕ, ◌+◌, ◌<◌, ◌≤◌, List, length, take, get_or, arith, sym, ap, ◌∙◌, Some, slice_get}
use Rattle.std.proofs.lemmas.List.{take_more_same, take_all, get_or-take}
use Rattle.std.proofs.lemmas.Option.{get_or_from_slice_get}
use Rattle.nesl_values.specs.Tree.{ValueTree}
use Rattle.nesl_values.specs.Compares.{Decides}
use Rattle.nesl_values.specs.declared.same.Comparison.{Comparison}

-- what decides one fact decides another that holds just where it does
pub tells_of : {A B : Type 0} → (c : Comparison A B) (P Q : Type 0) (m n : ℕ) → (P → Q) → (Q → P) → m ≤ n → Decides c P m → Decides c Q n
tells_of (Comparison.Settled answer) P Q m n there back le h = (λ yes. there (h.0 yes), λ q. h.1 (back q))
tells_of (Comparison.RestsOn x y) P Q m n there back le h = ((λ same. there (h.0.0 same), λ q. h.0.1 (back q)), omega (arith, h.1))

-- two lists are the same where they are up to their last elements, and in those
pub same_from_last : (xs ys : List ValueTree) (i n : ℕ) (x y : ValueTree) → length xs ≡ n → length ys ≡ n → i + 1 ≡ n → take i xs ≡ take i ys → slice_get xs i ≡ Some x → slice_get ys i ≡ Some y → x ≡ y → xs ≡ ys
same_from_last xs ys i n x y len_xs len_ys last front at_xs at_ys same =
    let mine : get_or xs i x ≡ x = get_or_from_slice_get xs i x x at_xs in
    let theirs : get_or ys i x ≡ x = get_or_from_slice_get ys i y x at_ys ∙ sym same in
    let whole : take (i + 1) xs ≡ take (i + 1) ys = take_more_same xs ys i x (omega arith) (omega arith) front (mine ∙ sym theirs) in
    sym (take_all (i + 1) xs (omega arith)) ∙ whole ∙ take_all (i + 1) ys (omega arith)

-- where two lists begin alike, so do their elements there
pub same_at : (xs ys : List ValueTree) (i n : ℕ) (x y : ValueTree) → i < n → take n xs ≡ take n ys → slice_get xs i ≡ Some x → slice_get ys i ≡ Some y → x ≡ y
same_at xs ys i n x y h front at_xs at_ys =
    sym (get_or_from_slice_get xs i x x at_xs) ∙ sym (get_or-take n xs i x h) ∙ ap (λ zs. get_or zs i x) front ∙ get_or-take n ys i x h ∙ get_or_from_slice_get ys i y x at_ys
