-- What each function evaluates to.
use Rattle.std.specs.Prelude.{pos, length}
use Rattle.nesl_values.specs.Tree.{ValueTree, int, boolean}
use Rattle.nesl_values.specs.Parts.{as_int, as_pair, as_sequence}
use Rattle.nesl_seqs_base.specs.Outcome.{Outcome, gives, if_there}
use Rattle.nesl_seqs_base.specs.Arguments.{sequence_and_int, two_sequences, tree_and_int, two_ints, three_ints}
use Rattle.nesl_seqs_base.specs.Arguments.{sequence_item_place, numbers, truths}
use Rattle.nesl_seqs_base.specs.Pieces.{element_at, appended, halves, taken, dropped, reversed, rotated, replaced}
use Rattle.nesl_seqs_base.specs.Reductions.{all_of, summed, some_true, all_true, count_of_true}
use Rattle.nesl_seqs_base.specs.Equal.{tree_eq}
use Rattle.nesl_seqs_base.specs.Pairs.{zipped}
use Rattle.nesl_seqs_base.specs.Ranges.{repeated, ranged, first_numbers}
use Rattle.nesl_seqs_base.specs.Extremes.{best_element, best_place}
use Rattle.nesl_seqs_base.specs.Scans.{plus_scanned, logic_scanned}
use Rattle.nesl_seqs_base.specs.Levels.{sequences, flattened, sequence_and_numbers, partitioned}
use Rattle.nesl_seqs_base.specs.Sides.{sequence_of_pairs, unzipped, sequence_and_truths, split_apart}
use Rattle.nesl_seqs_base.specs.Woven.{odd_elements, even_elements, interleaved}
use Rattle.nesl_seqs_base.specs.Gather.{gathered}
use Rattle.nesl_seqs_base.specs.Permute.{permuted}
use Rattle.nesl_seqs_base.specs.Write.{int_and_tree, written}
use Rattle.nesl_seqs_base.specs.declared.seq_fn.SeqFn.{SeqFn}
use Rattle.nesl_seqs_base.specs.declared.order.Order.TheVariants.{Greatest, Least}
use Rattle.nesl_seqs_base.specs.declared.joint.Joint.TheVariants.{Or, And}
use Rattle.nesl_seqs_base.specs.declared.seq_fn.SeqFn.TheVariants.{Length, ElementAt, Append, Dist, Range, RangeBy}
use Rattle.nesl_seqs_base.specs.declared.seq_fn.SeqFn.TheVariants.{Index, Sum, Any, All, Count, Bottop, Take, Drop}
use Rattle.nesl_seqs_base.specs.declared.seq_fn.SeqFn.TheVariants.{Reverse, Rotate, Zip, Rep, Eql, MaxVal, MinVal}
use Rattle.nesl_seqs_base.specs.declared.seq_fn.SeqFn.TheVariants.{MaxIndex, MinIndex, PlusScan, OrScan, AndScan}
use Rattle.nesl_seqs_base.specs.declared.seq_fn.SeqFn.TheVariants.{Flatten, Unzip, OddElts, EvenElts, Interleave}
use Rattle.nesl_seqs_base.specs.declared.seq_fn.SeqFn.TheVariants.{Gather, Permute, Split, Partition, Write}

-- this profile's table of sequence functions
abbrev pub outcome_of : SeqFn → ValueTree → Outcome
outcome_of Length t = if_there (as_sequence t) (λ ts. gives (int (pos (length ts))))
outcome_of ElementAt t = if_there (sequence_and_int t) (λ p. element_at p.0 p.1)
outcome_of Append t = if_there (two_sequences t) (λ p. appended p.0 p.1)
outcome_of Dist t = if_there (tree_and_int t) (λ p. repeated p.0 p.1)
outcome_of Range t = if_there (two_ints t) (λ p. ranged p.0 p.1 (pos 1))
outcome_of RangeBy t = if_there (three_ints t) (λ p. ranged p.0 p.1.0 p.1.1)
outcome_of Index t = if_there (as_int t) first_numbers
outcome_of Sum t = if_there (numbers t) summed
outcome_of Any t = if_there (truths t) some_true
outcome_of All t = if_there (truths t) all_true
outcome_of Count t = if_there (truths t) count_of_true
outcome_of Bottop t = if_there (as_sequence t) halves
outcome_of Take t = if_there (sequence_and_int t) (λ p. taken p.0 p.1)
outcome_of Drop t = if_there (sequence_and_int t) (λ p. dropped p.0 p.1)
outcome_of Reverse t = if_there (as_sequence t) reversed
outcome_of Rotate t = if_there (sequence_and_int t) (λ p. rotated p.0 p.1)
outcome_of Zip t = if_there (two_sequences t) (λ p. zipped p.0 p.1)
outcome_of Rep t = if_there (sequence_item_place t) (λ p. replaced p.0 p.1.0 p.1.1)
outcome_of Eql t = if_there (as_pair t) (λ p. gives (boolean (tree_eq p.0 p.1)))
outcome_of MaxVal t = best_element Greatest t
outcome_of MinVal t = best_element Least t
outcome_of MaxIndex t = best_place Greatest t
outcome_of MinIndex t = best_place Least t
outcome_of PlusScan t = if_there (numbers t) plus_scanned
outcome_of OrScan t = logic_scanned Or t
outcome_of AndScan t = logic_scanned And t
outcome_of Flatten t = if_there (sequences t) flattened
outcome_of Unzip t = if_there (sequence_of_pairs t) unzipped
outcome_of OddElts t = if_there (as_sequence t) odd_elements
outcome_of EvenElts t = if_there (as_sequence t) even_elements
outcome_of Interleave t = if_there (two_sequences t) (λ p. interleaved p.0 p.1)
outcome_of Gather t = if_there (two_sequences t) (λ p. if_there (all_of as_int p.1) (gathered p.0))
outcome_of Permute t = if_there (two_sequences t) (λ p. if_there (all_of as_int p.1) (permuted p.0))
outcome_of Split t = if_there (sequence_and_truths t) (λ p. split_apart p.0 p.1)
outcome_of Partition t = if_there (sequence_and_numbers t) (λ p. partitioned p.0 p.1)
outcome_of Write t = if_there (two_sequences t) (λ p. if_there (all_of int_and_tree p.1) (written p.0))
