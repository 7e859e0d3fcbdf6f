-- Sequences of sequences.
use Rattle.std.specs.Prelude.{◌≡◌, ℕ, ℤ, pos, negsuc, ◌&&◌, Bool, true, false, cond, List, [], ◌∷◌, length, map, take}
use Rattle.std.specs.Prelude.{drop, Option, Some, None, option_and_then, Result, Ok, Err, unsigned_abs}
use Rattle.std.specs.List.{flat_map, list_all}
use Rattle.std.specs.Ordering.{int_eq}
use Rattle.nesl_scalars.specs.declared.trap.Trap.{Trap}
use Rattle.nesl_scalars.specs.declared.trap.Trap.TheVariants.{Count}
use Rattle.nesl_values.specs.Tree.{ValueTree, sequence}
use Rattle.nesl_values.specs.Parts.{as_pair, as_sequence}
use Rattle.nesl_seqs_base.specs.Outcome.{Outcome, gives, traps}
use Rattle.nesl_seqs_base.specs.Arguments.{both_parts, numbers}
use Rattle.nesl_seqs_base.specs.Reductions.{all_of, total}

-- a sequence of sequences
abbrev pub sequences : ValueTree → Option (List (List ValueTree))
sequences t = option_and_then (all_of as_sequence) (as_sequence t)

-- `flatten(v)`: the elements of the inner sequences, one sequence after the other
abbrev pub flattened : List (List ValueTree) → Outcome
flattened tss = gives (sequence (flat_map (λ ts. ts) tss))

-- a sequence and numbers
abbrev pub sequence_and_numbers : ValueTree → Option (List ValueTree × List ℤ)
sequence_and_numbers t = option_and_then (λ p. both_parts (as_sequence p.0) (numbers p.1)) (as_pair t)

-- whether a number is 0 or more
abbrev pub is_natural : ℤ → Bool
is_natural (pos n) = true
is_natural (negsuc n) = false

-- whether all of them are 0 or more, and their sum is n
abbrev pub are_lengths : ℕ → List ℤ → Bool
are_lengths n zs = list_all is_natural zs && int_eq (total zs) (pos n)

-- pieces of these lengths, one after the other
abbrev pub pieces : {X : Type 0} → List X → List ℤ → List (List X)
pieces xs [] = []
pieces xs (z ∷ zs) = take (unsigned_abs z) xs ∷ pieces (drop (unsigned_abs z) xs) zs

-- `partition(v, c)`
abbrev pub partitioned : List ValueTree → List ℤ → Outcome
partitioned ts zs = cond (are_lengths (length ts) zs) (gives (sequence (map sequence (pieces ts zs)))) (traps Count)

-- a check of counts passes where they are lengths, and fails with `count` where they are none; where some are no
-- numbers, with any fault
abbrev pub Checks : Option Bool → Result (Unit {0}) Trap → Type 0
Checks (Some true) (Ok u) = Unit {0}
Checks (Some true) (Err e) = ⊥
Checks (Some false) (Ok u) = ⊥
Checks (Some false) (Err e) = e ≡ Count
Checks None (Ok u) = ⊥
Checks None (Err e) = Unit {0}
