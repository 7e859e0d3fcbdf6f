-- The parts of an argument.
use Rattle.std.specs.Prelude.{ℤ, Bool, List, Option, Some, None, option_map, option_and_then}
use Rattle.nesl_values.specs.Tree.{ValueTree}
use Rattle.nesl_values.specs.Parts.{as_int, as_bool, as_pair, as_sequence}
use Rattle.nesl_seqs_base.specs.Reductions.{all_of}

-- both, where both are there
abbrev pub both_parts : {X Y : Type 0} → Option X → Option Y → Option (X × Y)
both_parts (Some x) (Some y) = Some (x, y)
both_parts (Some x) None = None
both_parts None o = None

-- a sequence and a number
abbrev pub sequence_and_int : ValueTree → Option (List ValueTree × ℤ)
sequence_and_int t = option_and_then (λ p. both_parts (as_sequence p.0) (as_int p.1)) (as_pair t)

-- two sequences
abbrev pub two_sequences : ValueTree → Option (List ValueTree × List ValueTree)
two_sequences t = option_and_then (λ p. both_parts (as_sequence p.0) (as_sequence p.1)) (as_pair t)

-- anything and a number
abbrev pub tree_and_int : ValueTree → Option (ValueTree × ℤ)
tree_and_int t = option_and_then (λ p. option_map (λ k. (p.0, k)) (as_int p.1)) (as_pair t)

-- a sequence, anything and a number
abbrev pub sequence_item_place : ValueTree → Option (List ValueTree × (ValueTree × ℤ))
sequence_item_place t = option_and_then (λ p. both_parts (as_sequence p.0) (tree_and_int p.1)) (as_pair t)

-- two numbers
abbrev pub two_ints : ValueTree → Option (ℤ × ℤ)
two_ints t = option_and_then (λ p. both_parts (as_int p.0) (as_int p.1)) (as_pair t)

-- three numbers
abbrev pub three_ints : ValueTree → Option (ℤ × (ℤ × ℤ))
three_ints t = option_and_then (λ p. both_parts (as_int p.0) (two_ints p.1)) (as_pair t)

-- a sequence of numbers
abbrev pub numbers : ValueTree → Option (List ℤ)
numbers t = option_and_then (all_of as_int) (as_sequence t)

-- a sequence of truth values
abbrev pub truths : ValueTree → Option (List Bool)
truths t = option_and_then (all_of as_bool) (as_sequence t)
