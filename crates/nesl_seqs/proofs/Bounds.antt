-- No price is above what its numbers hold, where the argument has fewer than 2^66 nodes.
use Rattle.std.proofs.Common.{ℕ, ℤ, zero, suc, pos, negsuc, ◌+◌, ◌-◌, ◌/◌, ◌^◌, ◌<◌, ◌≤◌, Bool, true, false, cond, List, [], ◌∷◌, length, take, drop, arith, Option, Some, None, option_map, unwrap_or, nat_le, nat_lt, nat_eq, set}
use Rattle.nesl_scalars.specs.declared.trap.Trap.{Trap}
use Rattle.nesl_values.specs.Tree.{ValueTree, int, boolean, character, pair, seq, tagged, trees_of, sequence, size}
use Rattle.nesl_values.specs.Tree.{sizes}
use Rattle.nesl_values.specs.Parts.{list_of, as_sequence}
use Rattle.nesl_seqs_base.specs.Outcome.{Outcome, gives, traps, undefined, if_there, number, fits}
use Rattle.nesl_seqs_base.specs.Arguments.{sequence_and_int, two_sequences, numbers, truths}
use Rattle.nesl_seqs_base.specs.Pieces.{element_at, appended, halves, taken, dropped, reversed, rotated, places_on, replaced}
use Rattle.nesl_seqs_base.specs.Pairs.{pairs, zipped}
use Rattle.nesl_seqs_base.specs.Reductions.{summed, some_true, all_true, count_of_true, total}
use Rattle.nesl_seqs_base.specs.Prices.{reads, length_of}
use Rattle.nesl_seqs_base.specs.Meaning.{outcome_of}
use Rattle.nesl_seqs_base.specs.declared.seq_fn.SeqFn.{SeqFn}
use Rattle.nesl_seqs_base.specs.declared.seq_fn.SeqFn.TheVariants.{Length, ElementAt, Append, Sum, Any, All, Count, Bottop, Take, Drop, Reverse, Rotate, Zip, Rep, Eql}
use Rattle.nesl_seqs_base.proofs.Sizes.{sizes_list, length_le, sizes_take, sizes_drop, sizes_set}
use Rattle.nesl_seqs_base.proofs.Totals.{sizes_append, sizes_reverse}

-- the work of an outcome fits
abbrev pub Fits : Outcome → ℕ → Type 0
Fits (gives t) read = 1 + read + (size t - 1) < 2 ^ 128
Fits (traps e) read = Unit {0}
Fits undefined read = Unit {0}

pub fits_if : (b : Bool) (t : ValueTree) (e : Trap) (n : ℕ) → 1 + n + (size t - 1) < 2 ^ 128 → Fits (cond b (gives t) (traps e)) n
fits_if true t e n p = p
fits_if false t e n p = tt

pub by_sequence : (t : ValueTree) (g : List ValueTree → Outcome) → size t < 2 ^ 66 → ((ts : List ValueTree) → sizes (trees_of ts) < 2 ^ 66 → length ts < 2 ^ 66 → Fits (g ts) (length ts)) → Fits (if_there (as_sequence t) g) (length_of t)
by_sequence (seq ts) g h k = k (list_of ts) (omega (arith, sizes_list ts)) (omega (arith, sizes_list ts, length_le (list_of ts)))
by_sequence t g h k = tt

pub by_sequence_and_int : (t : ValueTree) (g : List ValueTree → ℤ → Outcome) → size t < 2 ^ 66 → ((ts : List ValueTree) (z : ℤ) → sizes (trees_of ts) < 2 ^ 66 → length ts < 2 ^ 66 → Fits (g ts z) (length ts))
    → Fits (if_there (sequence_and_int t) (λ p. g p.0 p.1)) (unwrap_or (option_map (λ p. length p.0) (sequence_and_int t)) 0)
by_sequence_and_int (pair (seq ts) (int z)) g h k = k (list_of ts) z (omega (arith, sizes_list ts)) (omega (arith, sizes_list ts, length_le (list_of ts)))
by_sequence_and_int t g h k = tt

fits_taken : (ts : List ValueTree) (z : ℤ) → sizes (trees_of ts) < 2 ^ 66 → length ts < 2 ^ 66 → Fits (taken ts z) (length ts)
fits_taken ts (pos k) h l = fits_if (nat_le k (length ts)) (sequence (take k ts)) _ (length ts) (omega (arith, sizes_take k ts))
fits_taken ts (negsuc k) h l = fits_if (nat_le (k + 1) (length ts)) (sequence (drop (length ts - (k + 1)) ts)) _ (length ts) (omega (arith, sizes_drop (length ts - (k + 1)) ts))

fits_dropped : (ts : List ValueTree) (z : ℤ) → sizes (trees_of ts) < 2 ^ 66 → length ts < 2 ^ 66 → Fits (dropped ts z) (length ts)
fits_dropped ts (pos k) h l = fits_if (nat_le k (length ts)) (sequence (drop k ts)) _ (length ts) (omega (arith, sizes_drop k ts))
fits_dropped ts (negsuc k) h l = fits_if (nat_le (k + 1) (length ts)) (sequence (take (length ts - (k + 1)) ts)) _ (length ts) (omega (arith, sizes_take (length ts - (k + 1)) ts))

fits_halves : (ts : List ValueTree) → sizes (trees_of ts) < 2 ^ 66 → length ts < 2 ^ 66 → Fits (halves ts) (length ts)
fits_halves ts h l = omega (arith, sizes_take ((length ts + 1) / 2) ts, sizes_drop ((length ts + 1) / 2) ts)

fits_reversed : (ts : List ValueTree) → sizes (trees_of ts) < 2 ^ 66 → length ts < 2 ^ 66 → Fits (reversed ts) (length ts)
fits_reversed ts h l = omega (arith, sizes_reverse ts)

fits_rotated : (ts : List ValueTree) (z : ℤ) → sizes (trees_of ts) < 2 ^ 66 → length ts < 2 ^ 66 → Fits (rotated ts z) (length ts)
fits_rotated ts z h l =
    let start = length ts - places_on (length ts) z in
    omega (arith, sizes_append (drop start ts) (take start ts), sizes_take start ts, sizes_drop start ts)

-- a leaf that is given
fits_number : (z : ℤ) (n : ℕ) → n < 2 ^ 66 → Fits (number z) n
fits_number z n h = fits_if (fits z) (int z) _ n (omega arith)

pub by_two_sequences : (t : ValueTree) (g : List ValueTree → List ValueTree → Outcome) → size t < 2 ^ 66 → ((ts us : List ValueTree) → sizes (trees_of ts) + sizes (trees_of us) < 2 ^ 66 → length ts + length us < 2 ^ 66 → Fits (g ts us) (length ts + length us))
    → Fits (if_there (two_sequences t) (λ p. g p.0 p.1)) (unwrap_or (option_map (λ p. length p.0 + length p.1) (two_sequences t)) 0)
by_two_sequences (pair (seq ts) (seq us)) g h k =
    k (list_of ts) (list_of us) (omega (arith, sizes_list ts, sizes_list us)) (omega (arith, sizes_list ts, sizes_list us, length_le (list_of ts), length_le (list_of us)))
by_two_sequences t g h k = tt

fits_element : (ts : List ValueTree) (i : ℕ) → sizes (trees_of ts) < 2 ^ 66 → Fits (element_at ts (pos i)) 0
fits_element [] i h = tt
fits_element (t ∷ ts) zero h = omega arith
fits_element (t ∷ ts) (suc i) h = fits_element ts i (omega arith)

fits_element_at : (t : ValueTree) → size t < 2 ^ 66 → Fits (outcome_of ElementAt t) 0
fits_element_at (pair (seq ts) (int (pos i))) h = fits_element (list_of ts) i (omega (arith, sizes_list ts))
fits_element_at t h = tt

fits_sum : (o : Option (List ℤ)) (n : ℕ) → n < 2 ^ 66 → Fits (if_there o summed) n
fits_sum None n h = tt
fits_sum (Some zs) n h = fits_number (total zs) n h

fits_leaf : (o : Option (List Bool)) (g : List Bool → Outcome) (n : ℕ) → ((bs : List Bool) → Fits (g bs) n) → Fits (if_there o g) n
fits_leaf None g n h = tt
fits_leaf (Some bs) g n h = h bs

pub length_below : (t : ValueTree) → size t < 2 ^ 66 → length_of t < 2 ^ 66
length_below (seq ts) h = omega (arith, sizes_list ts, length_le (list_of ts))
length_below (int n) h = omega arith
length_below (boolean b) h = omega arith
length_below (character c) h = omega arith
length_below (pair l r) h = omega arith
length_below (tagged n t) h = omega arith

fits_length : (t : ValueTree) → size t < 2 ^ 66 → Fits (outcome_of Length t) 0
fits_length (seq ts) h = omega arith
fits_length t h = tt

fits_eql : (t : ValueTree) → size t < 2 ^ 66 → Fits (outcome_of Eql t) (reads Eql t)
fits_eql (pair l r) h = omega arith
fits_eql t h = tt

-- a function of which the size of the argument bounds the work
abbrev pub IsBounded : SeqFn → Type 0
IsBounded f = (t : ValueTree) → size t < 2 ^ 66 → Fits (outcome_of f t) (reads f t)

pub bounded_length : IsBounded Length
bounded_length = fits_length

pub bounded_element_at : IsBounded ElementAt
bounded_element_at = fits_element_at

pub bounded_append : IsBounded Append
bounded_append t h = by_two_sequences t appended h (λ ts us p q. omega (arith, sizes_append ts us))

pub bounded_sum : IsBounded Sum
bounded_sum t h = fits_sum (numbers t) (length_of t) (length_below t h)

pub bounded_any : IsBounded Any
bounded_any t h = fits_leaf (truths t) some_true (length_of t) (λ bs. omega (arith, length_below t h))

pub bounded_all : IsBounded All
bounded_all t h = fits_leaf (truths t) all_true (length_of t) (λ bs. omega (arith, length_below t h))

pub bounded_count : IsBounded Count
bounded_count t h = fits_leaf (truths t) count_of_true (length_of t) (λ bs. omega (arith, length_below t h))

pub bounded_bottop : IsBounded Bottop
bounded_bottop t h = by_sequence t halves h fits_halves

pub bounded_take : IsBounded Take
bounded_take t h = by_sequence_and_int t taken h fits_taken

pub bounded_drop : IsBounded Drop
bounded_drop t h = by_sequence_and_int t dropped h fits_dropped

pub bounded_reverse : IsBounded Reverse
bounded_reverse t h = by_sequence t reversed h fits_reversed

pub bounded_rotate : IsBounded Rotate
bounded_rotate t h = by_sequence_and_int t rotated h fits_rotated

pub bounded_eql : IsBounded Eql
bounded_eql = fits_eql

sizes_pairs_le : (ts us : List ValueTree) → sizes (trees_of (pairs ts us)) ≤ length ts + (sizes (trees_of ts) + sizes (trees_of us))
sizes_pairs_le [] us = omega arith
sizes_pairs_le (t ∷ ts) [] = omega arith
sizes_pairs_le (t ∷ ts) (u ∷ us) = omega (arith, sizes_pairs_le ts us)

pub bounded_zip : IsBounded Zip
bounded_zip t h = by_two_sequences t zipped h (λ ts us p q. fits_if (nat_eq (length ts) (length us)) (sequence (pairs ts us)) _ (length ts + length us) (omega (arith, sizes_pairs_le ts us)))

fits_replaced : (ts : List ValueTree) (x : ValueTree) (z : ℤ) → sizes (trees_of ts) + size x < 2 ^ 66 → length ts < 2 ^ 66 → Fits (replaced ts x z) (length ts)
fits_replaced ts x (pos i) h l = fits_if (nat_lt i (length ts)) (sequence (set ts i x)) _ (length ts) (omega (arith, sizes_set ts i x))
fits_replaced ts x (negsuc i) h l = tt

pub bounded_rep : IsBounded Rep
bounded_rep (pair (seq ts) (pair x (int z))) h = fits_replaced (list_of ts) x z (omega (arith, sizes_list ts)) (omega (arith, sizes_list ts, length_le (list_of ts)))
bounded_rep t h = tt
