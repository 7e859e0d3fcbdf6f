-- What a plan builds, and for which price.
use Rattle.std.specs.Prelude.{◌≡◌, ℕ, ◌+◌, ◌<◌, ⊤, ℤ, Bool, true, false, List, [], ◌++◌, length, map, replicate}
use Rattle.std.specs.Prelude.{reverse, slice_set, unwrap_or, IsSome, Result, Ok, Err}
use Rattle.std.specs.List.{flat_map}
use Rattle.nesl_scalars.specs.declared.trap.Trap.{Trap}
use Rattle.nesl_values.specs.Tree.{ValueTree, int, pair, sequence}
use Rattle.nesl_values.specs.Parts.{as_int, as_bool, as_pair, as_sequence, elements}
use Rattle.nesl_values.specs.View.{tree_of, element_tree, item_trees}
use Rattle.nesl_seqs_base.specs.Levels.{are_lengths, pieces}
use Rattle.nesl_seqs_base.specs.Outcome.{Outcome, gives, traps, undefined}
use Rattle.nesl_seqs_base.specs.Pairs.{pairs}
use Rattle.nesl_seqs_base.specs.Pieces.{sequence_of_two}
use Rattle.nesl_seqs_base.specs.Ranges.{progression}
use Rattle.nesl_seqs_base.specs.Reductions.{all_of}
use Rattle.nesl_seqs_base.specs.Sides.{marked}
use Rattle.nesl_seqs_build.specs.Steps.{IsInRange}
use Rattle.nesl_seqs_build.specs.declared.plan.Plan.{Plan}

-- the counts, flags and pairs that items are; where some are none, the empty sequence of them
abbrev pub counts_in : List ValueTree → List ℤ
counts_in ts = unwrap_or (all_of as_int ts) []

abbrev pub flags_in : List ValueTree → List Bool
flags_in ts = unwrap_or (all_of as_bool ts) []

abbrev pub pairs_in : List ValueTree → List (ValueTree × ValueTree)
pairs_in ts = unwrap_or (all_of as_pair ts) []

-- the pair of the sequences of the left parts and of the right ones
abbrev pub sides : List (ValueTree × ValueTree) → ValueTree
sides ps = pair (sequence (map (λ p. p.0) ps)) (sequence (map (λ p. p.1) ps))

-- the tree that is built
abbrev pub built : {A : Type 0} → Plan A → ValueTree
built (Plan.Length n) = int n
built (Plan.Element e) = element_tree e
built (Plan.Joined xs ys) = sequence (item_trees xs ++ item_trees ys)
built (Plan.Part xs n) = sequence (item_trees xs)
built (Plan.Two xs ys) = sequence_of_two (item_trees xs) (item_trees ys)
built (Plan.Reversed xs) = sequence (reverse (item_trees xs))
built (Plan.Steps p) = sequence (progression p.first p.step p.count)
built (Plan.Copies x n) = sequence (replicate n (tree_of x.now))
built (Plan.Pairs xs ys) = sequence (pairs (item_trees xs) (item_trees ys))
built (Plan.Replaced xs x k) = sequence (slice_set (item_trees xs) k (tree_of x.now))
built (Plan.Flattened vs) = sequence (flat_map (λ v. elements (tree_of v)) vs.now)
built (Plan.Unzipped vs) = sides (pairs_in (map tree_of vs.now))
built (Plan.Pieces xs cs) = sequence (map sequence (pieces (item_trees xs) (counts_in (item_trees cs))))
built (Plan.Split xs fs) =
    sequence_of_two (marked false (item_trees xs) (flags_in (item_trees fs)))
    (marked true (item_trees xs) (flags_in (item_trees fs)))

-- how many elements are read
abbrev pub read_by : {A : Type 0} → Plan A → ℕ
read_by (Plan.Length n) = 0
read_by (Plan.Element e) = 0
read_by (Plan.Joined xs ys) = length (item_trees xs) + length (item_trees ys)
read_by (Plan.Part xs n) = n
read_by (Plan.Two xs ys) = length (item_trees xs) + length (item_trees ys)
read_by (Plan.Reversed xs) = length (item_trees xs)
read_by (Plan.Steps p) = 0
read_by (Plan.Copies x n) = 0
read_by (Plan.Pairs xs ys) = length (item_trees xs) + length (item_trees ys)
read_by (Plan.Replaced xs x k) = length (item_trees xs)
read_by (Plan.Flattened vs) = length vs.now
read_by (Plan.Unzipped vs) = length vs.now
read_by (Plan.Pieces xs cs) = length (item_trees xs) + length (item_trees cs)
read_by (Plan.Split xs fs) = length (item_trees xs) + length (item_trees fs)

-- what is known of what is planned
abbrev pub IsSound : {A : Type 0} → Plan A → Type 0
IsSound (Plan.Steps p) = IsInRange p
IsSound (Plan.Pairs xs ys) = length (item_trees xs) ≡ length (item_trees ys)
IsSound (Plan.Replaced xs x k) = k < length (item_trees xs)
IsSound (Plan.Flattened vs) = IsSome (all_of as_sequence (map tree_of vs.now))
IsSound (Plan.Unzipped vs) = IsSome (all_of as_pair (map tree_of vs.now))
IsSound (Plan.Pieces xs cs) =
    IsSome (all_of as_int (item_trees cs)) × (are_lengths (length (item_trees xs)) (counts_in (item_trees cs)) ≡ true)
IsSound (Plan.Split xs fs) =
    IsSome (all_of as_bool (item_trees fs)) × (length (item_trees xs) ≡ length (item_trees fs))
IsSound _ = ⊤

-- the plan builds the outcome from as many elements, or the fault is the outcome, or it is undefined and there is
-- some fault
abbrev pub Plans : {A : Type 0} → Outcome → ℕ → Result (Plan A) Trap → Type 0
Plans o read (Ok p) = (o ≡ gives (built p)) × (read_by p ≡ read) × IsSound p
Plans (gives t) read (Err e) = ⊥
Plans (traps d) read (Err e) = e ≡ d
Plans undefined read (Err e) = Unit {0}
