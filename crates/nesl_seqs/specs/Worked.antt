-- Calls that are worked by hand.
use Rattle.std.specs.Prelude.{◌≡◌, ℕ, ℤ, pos, negsuc, true, List, [], ◌∷◌, map}
use Rattle.nesl_values.specs.Tree.{ValueTree, int, boolean, pair, sequence, size}
use Rattle.nesl_seqs_base.specs.Outcome.{gives, traps}
use Rattle.nesl_seqs_base.specs.Meaning.{outcome_of}
use Rattle.nesl_seqs_base.specs.Prices.{reads, depth_of, price}
use Rattle.nesl_seqs_base.specs.declared.price.Price.{Price}
use Rattle.nesl_seqs_base.specs.declared.seq_fn.SeqFn.{SeqFn}
use Rattle.nesl_seqs_base.specs.declared.seq_fn.SeqFn.TheVariants as function
use Rattle.nesl_scalars.specs.declared.trap.Trap.TheVariants as trap

-- the sequence of these numbers
abbrev pub ints : List ℤ → ValueTree
ints zs = sequence (map int zs)

-- what a price says of work, depth and nodes
abbrev pub price_of : ℕ → ℕ → ℕ → Price
price_of work depth nodes = record { work = work; depth = depth; nodes = nodes }

-- at t the function evaluates to u, for that work and depth
abbrev pub ComesTo : SeqFn → ValueTree → ValueTree → ℕ → ℕ → Type 0
ComesTo f t u work depth =
    (outcome_of f t ≡ gives u) × (price (reads f t) (depth_of f (reads f t)) u ≡ price_of work depth (size u))

-- `[1:8:3]`, `[3:3]`, and steps of 0
abbrev pub Steps : Type 0
Steps = ComesTo function.RangeBy (pair (int (pos 1)) (pair (int (pos 8)) (int (pos 3))))
    (ints (pos 1 ∷ pos 4 ∷ pos 7 ∷ [])) 4 1
    × ComesTo function.Range (pair (int (pos 3)) (int (pos 3))) (ints []) 1 1
    × (outcome_of function.RangeBy (pair (int (pos 1)) (pair (int (pos 8)) (int (pos 0)))) ≡ traps trap.Stride)

-- pieces of 1, 0 and 2 elements; counts that are too few, and one below 0
abbrev pub Pieces : Type 0
Pieces = ComesTo function.Partition
    (pair (ints (pos 5 ∷ pos 6 ∷ pos 7 ∷ [])) (ints (pos 1 ∷ pos 0 ∷ pos 2 ∷ [])))
    (sequence (ints (pos 5 ∷ []) ∷ ints [] ∷ ints (pos 6 ∷ pos 7 ∷ []) ∷ [])) 13 1
    × (outcome_of function.Partition (pair (ints (pos 5 ∷ pos 6 ∷ [])) (ints (pos 1 ∷ []))) ≡ traps trap.Count)
    × (outcome_of function.Partition (pair (ints (pos 5 ∷ [])) (ints (pos 2 ∷ negsuc 0 ∷ []))) ≡ traps trap.Count)

-- the last of two that are written at one place wins; a place after the end
abbrev pub Writes : Type 0
Writes = ComesTo function.Write
    (pair (ints (pos 5 ∷ pos 6 ∷ pos 7 ∷ []))
    (sequence (pair (int (pos 1)) (int (pos 8)) ∷ pair (int (pos 1)) (int (pos 9)) ∷ [])))
    (ints (pos 5 ∷ pos 9 ∷ pos 7 ∷ [])) 9 1
    × (outcome_of function.Write (pair (ints (pos 5 ∷ [])) (sequence (pair (int (pos 1)) (int (pos 8)) ∷ [])))
    ≡ traps trap.Range)

-- elements go to their indices; refused are first another length, then an index that is no place, and then one twice
abbrev pub Permutes : Type 0
Permutes = ComesTo function.Permute
    (pair (ints (pos 5 ∷ pos 6 ∷ pos 7 ∷ [])) (ints (pos 1 ∷ pos 2 ∷ pos 0 ∷ [])))
    (ints (pos 7 ∷ pos 5 ∷ pos 6 ∷ [])) 10 1
    × (outcome_of function.Permute (pair (ints (pos 5 ∷ [])) (ints (pos 2 ∷ pos 2 ∷ []))) ≡ traps trap.Length)
    × (outcome_of function.Permute (pair (ints (pos 5 ∷ pos 6 ∷ [])) (ints (pos 2 ∷ pos 2 ∷ []))) ≡ traps trap.Range)
    × (outcome_of function.Permute (pair (ints (pos 5 ∷ pos 6 ∷ [])) (ints (pos 1 ∷ pos 1 ∷ [])))
    ≡ traps trap.Permutation)

-- all six nodes of two sequences of two are read
abbrev pub Equals : Type 0
Equals = ComesTo function.Eql (pair (ints (pos 1 ∷ pos 2 ∷ [])) (ints (pos 1 ∷ pos 2 ∷ []))) (boolean true) 7 1

-- the sums before each, where 4 has three digits and 0 none; a sum above the greatest number
abbrev pub Sums : Type 0
Sums = ComesTo function.PlusScan (ints (pos 3 ∷ negsuc 0 ∷ pos 2 ∷ pos 5 ∷ []))
    (ints (pos 0 ∷ pos 3 ∷ pos 2 ∷ pos 4 ∷ [])) 9 4
    × ComesTo function.PlusScan (ints []) (ints []) 1 1
    × (outcome_of function.Sum (ints (pos 9223372036854775807 ∷ pos 1 ∷ [])) ≡ traps trap.Overflow)

-- the first of two greatest; of no element there is none
abbrev pub Greatest : Type 0
Greatest = ComesTo function.MaxIndex (ints (pos 3 ∷ pos 7 ∷ pos 7 ∷ [])) (int (pos 1)) 4 3
    × (outcome_of function.MaxIndex (ints []) ≡ traps trap.Empty)

-- `rotate` by 1 and by -1, and the last two elements
abbrev pub Turns : Type 0
Turns = ComesTo function.Rotate (pair (ints (pos 1 ∷ pos 2 ∷ pos 3 ∷ [])) (int (pos 1)))
    (ints (pos 3 ∷ pos 1 ∷ pos 2 ∷ [])) 7 1
    × ComesTo function.Rotate (pair (ints (pos 1 ∷ pos 2 ∷ pos 3 ∷ [])) (int (negsuc 0)))
    (ints (pos 2 ∷ pos 3 ∷ pos 1 ∷ [])) 7 1
    × ComesTo function.Take (pair (ints (pos 1 ∷ pos 2 ∷ pos 3 ∷ [])) (int (negsuc 1)))
    (ints (pos 2 ∷ pos 3 ∷ [])) 6 1
