-- No price of these functions is above what its numbers hold, where the argument has fewer than 2^66 nodes.
use Rattle.nesl_scalars.specs.declared.trap.Trap.{Trap}
use Rattle.nesl_seqs_base.specs.Arguments.{both_parts, two_sequences}
use Rattle.nesl_seqs_base.specs.Pieces.{sequence_of_two}
use Rattle.nesl_seqs_base.proofs.Shapes.{length_all}
use Rattle.nesl_seqs_base.proofs.Priced.{second_read}
use Rattle.nesl_seqs_build.proofs.Splitting.{sizes_beside_le}
use Rattle.nesl_seqs_build.proofs.Cutting.{size_pieces}
use Rattle.std.proofs.Common.{◌≡◌, Bool, true, false, cond, option_map, option_and_then, unwrap_or, subst, sym, ℕ, ◌+◌, ◌-◌, ◌^◌, ◌<◌, ◌≤◌, List, [], ◌∷◌, ◌||◌, drop, length, map, nat_eq, refl, arith, Option, Some, None}
use Rattle.nesl_values.specs.Tree.{ValueTree, pair, seq, sequence, size, sizes, trees_of}
use Rattle.nesl_values.specs.Parts.{list_of, as_int, as_bool, as_pair, as_sequence}
use Rattle.nesl_seqs_base.specs.Outcome.{Outcome, if_there, gives, traps}
use Rattle.nesl_seqs_base.specs.Reductions.{all_of}
use Rattle.nesl_seqs_base.specs.Levels.{flattened, are_lengths, pieces, partitioned}
use Rattle.nesl_seqs_base.specs.Sides.{unzipped, marked, split_apart}
use Rattle.nesl_seqs_base.specs.Woven.{evens, woven, even_elements, odd_elements, interleaved}
use Rattle.nesl_seqs_base.specs.declared.seq_fn.SeqFn.TheVariants.{Flatten, Unzip, OddElts, EvenElts, Interleave, Split, Partition}
use Rattle.nesl_seqs.proofs.Bounds.{Fits, IsBounded, fits_if, by_sequence, by_two_sequences}
use Rattle.nesl_seqs_base.proofs.Sizes.{sizes_list, length_le, sizes_drop}
use Rattle.nesl_seqs_base.proofs.Totals.{sizes_append}
use Rattle.nesl_seqs_base.proofs.Weaving.{size_woven}
use Rattle.nesl_seqs_build.proofs.Flattening.{size_flattened}
use Rattle.nesl_seqs_build.proofs.Unzipping.{size_unzipped}

fits_given : {X : Type 0} (o : Option X) (g : X → Outcome) (n : ℕ) → ((x : X) → o ≡ Some x → Fits (g x) n) → Fits (if_there o g) n
fits_given None g n k = tt
fits_given (Some x) g n k = k x refl

pub bounded_flatten : IsBounded Flatten
bounded_flatten (seq ts) h =
    let us = list_of ts in
    fits_given (all_of as_sequence us) flattened (length us) (λ tss k. omega (arith, size_flattened us tss k, sizes_list ts, length_le us))
bounded_flatten t h = tt

pub bounded_unzip : IsBounded Unzip
bounded_unzip (seq ts) h =
    let us = list_of ts in
    fits_given (all_of as_pair us) unzipped (length us) (λ ps k. omega (arith, size_unzipped us ps k, sizes_list ts, length_le us))
bounded_unzip t h = tt

sizes_evens : (ts : List ValueTree) → sizes (trees_of (evens ts)) ≤ sizes (trees_of ts)
sizes_evens [] = omega arith
sizes_evens (t ∷ []) = omega arith
sizes_evens (t ∷ u ∷ ts) = omega (arith, sizes_evens ts)

pub bounded_even_elts : IsBounded EvenElts
bounded_even_elts t h = by_sequence t even_elements h (λ ts p q. omega (arith, sizes_evens ts))

pub bounded_odd_elts : IsBounded OddElts
bounded_odd_elts t h = by_sequence t odd_elements h (λ ts p q. omega (arith, sizes_evens (drop 1 ts), sizes_drop 1 ts))

pub bounded_interleave : IsBounded Interleave
bounded_interleave t h =
    by_two_sequences t interleaved h (λ ts us p q. fits_if (nat_eq (length ts) (length us) || nat_eq (length ts) (length us + 1)) (sequence (woven ts us)) _ (length ts + length us) (omega (arith, size_woven ts us, sizes_append ts us)))

fits_second : {X : Type 0} (o : Option (List X)) (g : List ValueTree → List X → Outcome) (ts : List ValueTree) (n : ℕ) → ((xs : List X) → o ≡ Some xs → Fits (g ts xs) n) → Fits (if_there {X = List ValueTree × List X} (option_map (λ xs. (ts, xs)) o) (λ p. g p.0 p.1)) n
fits_second None g ts n k = tt
fits_second (Some xs) g ts n k = k xs refl

by_second : {X : Type 0} (read : ValueTree → Option X) (g : List ValueTree → List X → Outcome) (t : ValueTree) → size t < 2 ^ 66 → ((ts us : List ValueTree) (xs : List X) → all_of read us ≡ Some xs → sizes (trees_of ts) + sizes (trees_of us) < 2 ^ 66 → length ts + length us < 2 ^ 66 → Fits (g ts xs) (length ts + length us))
    → Fits (if_there (option_and_then (λ p. both_parts (as_sequence p.0) (option_and_then (all_of read) (as_sequence p.1))) (as_pair t)) (λ p. g p.0 p.1)) (unwrap_or (option_map (λ p. length p.0 + length p.1) (two_sequences t)) 0)
by_second {X} read g (pair (seq ts) (seq us)) h k =
    subst (λ o. Fits (if_there {X = List ValueTree × List X} o (λ p. g p.0 p.1)) (length (list_of ts) + length (list_of us))) (sym (second_read read (pair (seq ts) (seq us)) (list_of ts) (list_of us) refl)) (fits_second (all_of read (list_of us)) g (list_of ts) (length (list_of ts) + length (list_of us)) (λ xs e. k (list_of ts) (list_of us) xs e (omega (arith, sizes_list ts, sizes_list us)) (omega (arith, sizes_list ts, sizes_list us, length_le (list_of ts), length_le (list_of us)))))
by_second read g (pair (seq ts) u) h k = tt
by_second read g t h k = tt

pub bounded_split : IsBounded Split
bounded_split t h =
    by_second as_bool split_apart t h (λ ts us bs e p q. fits_if (nat_eq (length ts) (length bs)) (sequence_of_two (marked false ts bs) (marked true ts bs)) _ (length ts + length us) (omega (arith, sizes_beside_le false ts bs, sizes_beside_le true ts bs)))

fits_checked : (b : Bool) (t : ValueTree) (e : Trap) (n : ℕ) → (b ≡ true → 1 + n + (size t - 1) < 2 ^ 128) → Fits (cond b (gives t) (traps e)) n
fits_checked true t e n h = h refl
fits_checked false t e n h = tt

pub bounded_partition : IsBounded Partition
bounded_partition t h =
    by_second as_int partitioned t h (λ ts us zs e p q. fits_checked (are_lengths (length ts) zs) (sequence (map sequence (pieces ts zs))) _ (length ts + length us) (λ k. omega (arith, size_pieces ts zs k, length_all as_int us zs e)))
