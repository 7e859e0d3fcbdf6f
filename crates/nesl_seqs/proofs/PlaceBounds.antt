-- No price of a function on places is above what its numbers hold, where lent values have fewer than 2^64
-- nodes each.
use Rattle.std.proofs.Common.{◌≡◌, ℕ, ℤ, zero, suc, ◌+◌, ◌-◌, ◌*◌, ◌^◌, ◌<◌, ◌≤◌, Bool, true, false, nat_le, List, [], ◌∷◌, length, map, refl, ap, sym, ◌∙◌, arith, Option, Some, None, is_some, slice_get, subst}
use Rattle.std.specs.List.{list_all, cons_option}
use Rattle.std.proofs.Math.Nat.{mul_comm, mul-add, mul-le-mul_left}
use Rattle.std.proofs.lemmas.Bool.Decides.{nat_tests}
use Rattle.std.proofs.lemmas.List.{length-map, map-id}
use Rattle.nesl_scalars.specs.declared.trap.Trap.{Trap}
use Rattle.nesl_scalars.specs.declared.trap.Trap.TheVariants.{Range}
use Rattle.nesl_values.specs.Tree.{ValueTree, int, pair, seq, sequence, size, sizes, trees_of}
use Rattle.nesl_values.specs.Parts.{as_int, list_of}
use Rattle.nesl_seqs_base.specs.Outcome.{Outcome, gives, traps, undefined, if_there}
use Rattle.nesl_seqs_base.specs.Reductions.{all_of}
use Rattle.nesl_seqs_base.specs.Places.{place_in, all_name_places, places_named, elements_at}
use Rattle.nesl_seqs_base.specs.Gather.{gathered}
use Rattle.nesl_seqs_base.specs.Permute.{permuted}
use Rattle.nesl_seqs_base.specs.Prices.{reads}
use Rattle.nesl_seqs_base.specs.Meaning.{outcome_of}
use Rattle.nesl_seqs_base.specs.Lent.{argument_tree}
use Rattle.nesl_seqs_base.specs.declared.argument.Argument.{Argument}
use Rattle.nesl_values.specs.View.{tree_of}
use Rattle.nesl_seqs.specs.Few.{HasFewNodes}
use Rattle.nesl_seqs_base.specs.Write.{int_and_tree, written, write_of}
use Rattle.nesl_seqs_base.specs.declared.seq_fn.SeqFn.TheVariants.{Gather, Permute, Write}
use Rattle.nesl_seqs.proofs.Bounds.{Fits, IsBounded, fits_if}
use Rattle.nesl_seqs_base.proofs.Sizes.{sizes_list, length_le}
use Rattle.nesl_seqs_index.proofs.Permuting.{by_outcome, size_rearranged}
use Rattle.nesl_seqs_index.proofs.Writing.{given_written, refused_write, sizes_overwritten}
use Rattle.nesl_seqs_index.proofs.Picking.{IsRefused, are_ints, length_found}

-- the product of two numbers is at most the square of their mean
product_le : (m s d k : ℕ) → k ≡ m + d → s ≤ k + d → m * s ≤ k * k
product_le m s d k is h =
    let first : m * s ≤ m * (k + d) = mul-le-mul_left m h in
    let second : d * m ≤ d * k = mul-le-mul_left d (omega arith) in
    let whole : k * k ≡ m * k + d * k = ap (λ n. n * k) is ∙ mul_comm (m + d) k ∙ mul-add k m d ∙ omega (arith, mul_comm k m, mul_comm k d) in
    omega (arith, first, second, whole, mul-add m k d, mul_comm m d)

element_le : (ts : List ValueTree) (k : ℕ) (t : ValueTree) → slice_get ts k ≡ Some t → size t ≤ sizes (trees_of ts)
element_le [] k t h = absurd (cc h)
element_le (u ∷ ts) zero t h =
    let same : u ≡ t = cc h in
    omega (arith, ap size same)
element_le (u ∷ ts) (suc k) t h = omega (arith, element_le ts k t h)

sizes_elements : (ts : List ValueTree) (ks : List ℕ) → sizes (trees_of (elements_at ts ks)) ≤ length ks * sizes (trees_of ts)
sizes_elements ts [] = omega arith
sizes_elements ts (k ∷ ks) = one_more (slice_get ts k) (elements_at ts ks) (length ks) (λ t e. element_le ts k t e) (sizes_elements ts ks) refl
  where
    one_more : (o : Option ValueTree) (us : List ValueTree) (n : ℕ) → ((t : ValueTree) → slice_get ts k ≡ Some t → size t ≤ sizes (trees_of ts)) → sizes (trees_of us) ≤ n * sizes (trees_of ts) → slice_get ts k ≡ o → sizes (trees_of (cons_option o us)) ≤ suc n * sizes (trees_of ts)
    one_more None us n le h e = omega (arith, h)
    one_more (Some t) us n le h e = omega (arith, h, le t e)

-- the product fits, where the two together are below 2^65
within_square : (m s : ℕ) → m + s ≤ 2 * (2 ^ 64 - 2) → m * s ≤ (2 ^ 64 - 2) * (2 ^ 64 - 2)
within_square m s h = by_order (nat_le m (2 ^ 64 - 2)) refl
  where
    by_order : (b : Bool) → nat_le m (2 ^ 64 - 2) ≡ b → m * s ≤ (2 ^ 64 - 2) * (2 ^ 64 - 2)
    by_order true e =
        let le : m ≤ 2 ^ 64 - 2 = grind (arith, nat_tests) in
        product_le m s (2 ^ 64 - 2 - m) (2 ^ 64 - 2) (omega arith) (omega arith)
    by_order false e =
        let le : 2 ^ 64 - 2 ≤ m = grind (arith, nat_tests) in
        let turned : s * m ≤ (2 ^ 64 - 2) * (2 ^ 64 - 2) = product_le s m (2 ^ 64 - 2 - s) (2 ^ 64 - 2) (omega arith) (omega arith) in
        omega (arith, turned, mul_comm m s)

fits_gathered : (ts us : List ValueTree) → sizes (trees_of ts) + sizes (trees_of us) ≤ 2 ^ 65 - 4 → Fits (if_there (all_of as_int us) (gathered ts)) (length ts + length us)
fits_gathered ts us h = by_ints (all_of as_int us) refl
  where
    by_ints : (o : Option (List ℤ)) → all_of as_int us ≡ o → Fits (if_there o (gathered ts)) (length ts + length us)
    by_ints None e = tt
    by_ints (Some zs) e =
        let ks = places_named (length ts) zs in
        let few : length zs ≡ length us = sym (length-map zs int) ∙ ap length (sym (are_ints us zs e)) in
        let most : length ks * sizes (trees_of ts) ≤ (2 ^ 64 - 2) * (2 ^ 64 - 2) = within_square (length ks) (sizes (trees_of ts)) (omega (arith, few, length_found (place_in (length ts)) zs, length_le us)) in
        fits_if (all_name_places (length ts) zs) (sequence (elements_at ts ks)) _ (length ts + length us) (omega (arith, most, sizes_elements ts ks, length_le ts, length_le us))

few_gathered : (t : ValueTree) → size t < 2 ^ 65 → Fits (outcome_of Gather t) (reads Gather t)
few_gathered (pair (seq ts) (seq us)) h = fits_gathered (list_of ts) (list_of us) (omega (arith, sizes_list ts, sizes_list us))
few_gathered t h = tt

none_gathered : (t u v : ValueTree) → Fits (outcome_of Gather (pair t (pair u v))) (reads Gather (pair t (pair u v)))
none_gathered (seq ts) u v = tt
none_gathered t u v = tt

pub bounded_gather : {A : Type 0} (x : Argument A) → HasFewNodes x → Fits (outcome_of Gather (argument_tree x)) (reads Gather (argument_tree x))
bounded_gather (Argument.One x) h = few_gathered (tree_of x.now) (omega (arith, h))
bounded_gather (Argument.Two x y) h = few_gathered (pair (tree_of x.now) (tree_of y.now)) (omega (arith, h.0, h.1))
bounded_gather (Argument.Three x y z) h = none_gathered (tree_of x.now) (tree_of y.now) (tree_of z.now)

fits_refused : (o : Outcome) (e : Trap) (read : ℕ) → IsRefused o e → Fits o read
fits_refused (gives t) e read p = absurd p
fits_refused (traps d) e read p = tt
fits_refused undefined e read p = tt

fits_permuted : (ts us : List ValueTree) → sizes (trees_of ts) + sizes (trees_of us) ≤ 2 ^ 66 - 4 → Fits (if_there (all_of as_int us) (permuted ts)) (length ts + length us)
fits_permuted ts us h =
    subst (λ js. Fits (if_there (all_of as_int js) (permuted ts)) (length ts + length us)) (map-id us) (by_outcome (λ t. t) us ts (λ o. Fits o (length ts + length us)) (λ o e p. fits_refused o e (length ts + length us) p) (λ a. rw a.is (omega (arith, h, length_le ts, length_le us, size_rearranged ts (map (λ t. t) us) a.same a.named a.differ))))

pub bounded_permute : IsBounded Permute
bounded_permute (pair (seq ts) (seq us)) h = fits_permuted (list_of ts) (list_of us) (omega (arith, sizes_list ts, sizes_list us))
bounded_permute t h = tt

fits_written : (ts us : List ValueTree) → sizes (trees_of ts) + sizes (trees_of us) ≤ 2 ^ 66 - 4 → Fits (if_there (all_of int_and_tree us) (written ts)) (length ts + length us)
fits_written ts us h = subst (λ js. Fits (if_there (all_of int_and_tree js) (written ts)) (length ts + length us)) (map-id us) (by_test (list_all (λ p. is_some (write_of (length ts) p)) us) refl)
  where
    by_test : (b : Bool) → list_all (λ p. is_some (write_of (length ts) p)) us ≡ b → Fits (if_there (all_of int_and_tree (map (λ t. t) us)) (written ts)) (length ts + length us)
    by_test true e =
        rw (given_written (λ t. t) us ts e) (omega (arith, h, length_le ts, length_le us, sizes_overwritten ts (length ts) (map (λ t. t) us), ap (λ js. sizes (trees_of js)) (map-id us)))
    by_test false e = fits_refused (if_there (all_of int_and_tree (map (λ t. t) us)) (written ts)) Range (length ts + length us) (refused_write (λ t. t) us ts e)

pub bounded_write : IsBounded Write
bounded_write (pair (seq ts) (seq us)) h = fits_written (list_of ts) (list_of us) (omega (arith, sizes_list ts, sizes_list us))
bounded_write t h = tt
