-- The work of the greatest and least, and of scans.
use Rattle.std.proofs.Common.{◌≡◌, ℕ, ℤ, pos, ◌^◌, ◌<◌, Bool, List, length, map, refl, Option, Some, None, option_and_then, arith}
use Rattle.std.specs.List.{list_all}
use Rattle.nesl_scalars.specs.declared.trap.Trap.TheVariants.{Overflow}
use Rattle.nesl_values.specs.Tree.{ValueTree, int, boolean, seq, sequence, size}
use Rattle.nesl_values.specs.Parts.{list_of, as_int, as_bool, as_sequence}
use Rattle.nesl_seqs_base.specs.Outcome.{Outcome, gives, if_there, if_there_or, fits}
use Rattle.nesl_seqs_base.specs.Reductions.{all_of, total}
use Rattle.nesl_seqs_base.specs.Prices.{length_of}
use Rattle.nesl_seqs_base.specs.Extremes.{key, element_of, best, or_empty, of_best}
use Rattle.nesl_seqs_base.specs.Scans.{before_each, plus_scanned, joined_truths, joined_bits, logic_scanned}
use Rattle.nesl_seqs.specs.Leaves.{logic_of}
use Rattle.nesl_seqs_base.specs.declared.order.Best.{Best}
use Rattle.nesl_seqs_base.specs.declared.order.Order.{Order}
use Rattle.nesl_seqs_base.specs.declared.order.Order.TheVariants.{Greatest, Least}
use Rattle.nesl_seqs_base.specs.declared.order.Kind.{Kind}
use Rattle.nesl_seqs_base.specs.declared.order.Kind.TheVariants.{Numbers, Codes}
use Rattle.nesl_seqs_base.specs.declared.joint.Joint.{Joint}
use Rattle.nesl_seqs_base.specs.declared.joint.Joint.TheVariants.{Or, And}
use Rattle.nesl_seqs_base.specs.declared.seq_fn.SeqFn.TheVariants.{MaxVal, MinVal, MaxIndex, MinIndex, PlusScan, OrScan, AndScan}
use Rattle.nesl_seqs.proofs.Bounds.{Fits, IsBounded, fits_if, length_below}
use Rattle.nesl_seqs.proofs.Leaves.{size_before, length_all}

fits_given : {X : Type 0} (o : Option X) (g : X → Outcome) (n : ℕ) → ((x : X) → Fits (g x) n) → Fits (if_there o g) n
fits_given None g n h = tt
fits_given (Some x) g n h = h x

fits_first : {X : Type 0} (o : Option X) (g : X → Outcome) (other : Outcome) (n : ℕ) → ((x : X) → Fits (g x) n) → Fits other n → Fits (if_there_or o g other) n
fits_first None g other n h k = k
fits_first (Some x) g other n h k = h x

fits_chosen : {X : Type 0} (f : X → ValueTree) (o : Option X) (n : ℕ) → n < 2 ^ 66 → ((x : X) → size (f x) ≡ 1) → Fits (or_empty f o) n
fits_chosen f None n h leaf = tt
fits_chosen f (Some x) n h leaf = omega (arith, leaf x)

fits_best : (o : Order) (f : Kind → Best → ValueTree) (t : ValueTree) (n : ℕ) → n < 2 ^ 66 → ((k : Kind) (b : Best) → size (f k b) ≡ 1) → Fits (of_best o f t) n
fits_best o f t n h leaf =
    fits_first (option_and_then (all_of (key Numbers)) (as_sequence t)) (λ zs. or_empty (f Numbers) (best o zs)) _ n (λ zs. fits_chosen (f Numbers) (best o zs) n h (leaf Numbers)) (fits_given (option_and_then (all_of (key Codes)) (as_sequence t)) (λ zs. or_empty (f Codes) (best o zs)) n (λ zs. fits_chosen (f Codes) (best o zs) n h (leaf Codes)))

element_leaf : (k : Kind) (z : ℤ) → size (element_of k z) ≡ 1
element_leaf Numbers z = refl
element_leaf Codes z = refl

pub bounded_max_val : IsBounded MaxVal
bounded_max_val t h = fits_best Greatest (λ k b. element_of k b.key) t (length_of t) (length_below t h) (λ k b. element_leaf k b.key)

pub bounded_min_val : IsBounded MinVal
bounded_min_val t h = fits_best Least (λ k b. element_of k b.key) t (length_of t) (length_below t h) (λ k b. element_leaf k b.key)

pub bounded_max_index : IsBounded MaxIndex
bounded_max_index t h = fits_best Greatest (λ k b. int (pos b.place)) t (length_of t) (length_below t h) (λ k b. refl)

pub bounded_min_index : IsBounded MinIndex
bounded_min_index t h = fits_best Least (λ k b. int (pos b.place)) t (length_of t) (length_below t h) (λ k b. refl)

fits_sums : (ts : List ValueTree) → length ts < 2 ^ 66 → Fits (if_there (all_of as_int ts) plus_scanned) (length ts)
fits_sums ts h = by (all_of as_int ts) refl
  where
    by : (o : Option (List ℤ)) → all_of as_int ts ≡ o → Fits (if_there o plus_scanned) (length ts)
    by None e = tt
    by (Some zs) e =
        fits_if (list_all fits (before_each total zs)) (sequence (map int (before_each total zs))) Overflow (length ts) (omega (arith, size_before int (λ z. refl) total zs, length_all as_int ts zs e))

fits_logic : (j : Joint) (ts : List ValueTree) → length ts < 2 ^ 66 → Fits (logic_of j ts) (length ts)
fits_logic j ts h = by (all_of as_bool ts) (all_of as_int ts) refl refl
  where
    by : (o : Option (List Bool)) (p : Option (List ℤ)) → all_of as_bool ts ≡ o → all_of as_int ts ≡ p
        → Fits (if_there_or o (λ bs. gives (sequence (map boolean (before_each (joined_truths j) bs)))) (if_there p (λ zs. gives (sequence (map int (before_each (joined_bits j) zs)))))) (length ts)
    by (Some bs) p e f = omega (arith, size_before boolean (λ b. refl) (joined_truths j) bs, length_all as_bool ts bs e)
    by None (Some zs) e f = omega (arith, size_before int (λ z. refl) (joined_bits j) zs, length_all as_int ts zs f)
    by None None e f = tt

pub bounded_plus_scan : IsBounded PlusScan
bounded_plus_scan (seq ts) h = fits_sums (list_of ts) (length_below (seq ts) h)
bounded_plus_scan t h = tt

fits_logic_scanned : (j : Joint) (t : ValueTree) → size t < 2 ^ 66 → Fits (logic_scanned j t) (length_of t)
fits_logic_scanned j (seq ts) h = fits_logic j (list_of ts) (length_below (seq ts) h)
fits_logic_scanned j t h = tt

pub bounded_or_scan : IsBounded OrScan
bounded_or_scan t h = fits_logic_scanned Or t h

pub bounded_and_scan : IsBounded AndScan
bounded_and_scan t h = fits_logic_scanned And t h
