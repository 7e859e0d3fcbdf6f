-- Sequences that are taken apart in two.
use Rattle.std.specs.Prelude.{Bool, true, false, List, length, map, cond, nat_eq, Option, option_and_then}
use Rattle.std.specs.List.{filter, zip}
use Rattle.nesl_scalars.specs.declared.trap.Trap.TheVariants.{Length}
use Rattle.nesl_values.specs.Tree.{ValueTree, pair, sequence}
use Rattle.nesl_values.specs.Parts.{as_pair, as_sequence}
use Rattle.nesl_seqs_base.specs.Outcome.{Outcome, gives, traps}
use Rattle.nesl_seqs_base.specs.Arguments.{both_parts, truths}
use Rattle.nesl_seqs_base.specs.Equal.{bool_eq}
use Rattle.nesl_seqs_base.specs.Pieces.{sequence_of_two}
use Rattle.nesl_seqs_base.specs.Reductions.{all_of}

-- a sequence of pairs
abbrev pub sequence_of_pairs : ValueTree → Option (List (ValueTree × ValueTree))
sequence_of_pairs t = option_and_then (all_of as_pair) (as_sequence t)

-- `unzip(v)`: the sequence of the left parts and that of the right ones
abbrev pub unzipped : List (ValueTree × ValueTree) → Outcome
unzipped ps = gives (pair (sequence (map (λ p. p.0) ps)) (sequence (map (λ p. p.1) ps)))

-- a sequence and truth values
abbrev pub sequence_and_truths : ValueTree → Option (List ValueTree × List Bool)
sequence_and_truths t = option_and_then (λ p. both_parts (as_sequence p.0) (truths p.1)) (as_pair t)

-- the elements that have that truth value beside them
abbrev pub marked : {X : Type 0} → Bool → List X → List Bool → List X
marked b xs bs = map (λ p. p.0) (filter (λ p. bool_eq b p.1) (zip xs bs))

-- `split(v, f)`: the elements with F, and those with T
abbrev pub split_apart : List ValueTree → List Bool → Outcome
split_apart ts bs =
    cond (nat_eq (length ts) (length bs)) (gives (sequence_of_two (marked false ts bs) (marked true ts bs)))
    (traps Length)
