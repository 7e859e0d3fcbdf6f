-- Sequences that are parts of others, or that are put together from them.
use Rattle.std.specs.Prelude.{ℕ, zero, suc, ◌+◌, ◌-◌, ◌/◌, ℤ, pos, negsuc, List, [], ◌∷◌, ◌++◌, length, take, drop}
use Rattle.std.specs.Prelude.{reverse, cond, nat_le, nat_lt, slice_set, slice_get, Option, Some, None, unsigned_abs}
use Rattle.std.specs.Int.{int_rem_euclid}
use Rattle.nesl_scalars.specs.declared.trap.Trap.TheVariants.{Range}
use Rattle.nesl_values.specs.Tree.{ValueTree, sequence}
use Rattle.nesl_seqs_base.specs.Outcome.{Outcome, gives, traps}

-- `v[i]`: the element that has `i` elements before it
abbrev pub element_at : List ValueTree → ℤ → Outcome
element_at ts (pos i) = told (slice_get ts i)
  where
    told : Option ValueTree → Outcome
    told (Some t) = gives t
    told None = traps Range
element_at ts (negsuc i) = traps Range

-- `v ++ w`
abbrev pub appended : List ValueTree → List ValueTree → Outcome
appended ts us = gives (sequence (ts ++ us))

-- the sequence of two sequences
abbrev pub sequence_of_two : List ValueTree → List ValueTree → ValueTree
sequence_of_two ts us = sequence (sequence ts ∷ sequence us ∷ [])

-- `bottop(v)`: the first half, which has the one more, and the other
abbrev pub halves : List ValueTree → Outcome
halves ts = gives (sequence_of_two (take ((length ts + 1) / 2) ts) (drop ((length ts + 1) / 2) ts))

-- `take(v, k)`: the first k, or the last k for `take(v, -k)`
abbrev pub taken : List ValueTree → ℤ → Outcome
taken ts (pos k) = cond (nat_le k (length ts)) (gives (sequence (take k ts))) (traps Range)
taken ts (negsuc k) = cond (nat_le (k + 1) (length ts)) (gives (sequence (drop (length ts - (k + 1)) ts))) (traps Range)

-- `drop(v, k)`: all but the first k, or all but the last k for `drop(v, -k)`
abbrev pub dropped : List ValueTree → ℤ → Outcome
dropped ts (pos k) = cond (nat_le k (length ts)) (gives (sequence (drop k ts))) (traps Range)
dropped ts (negsuc k) =
    cond (nat_le (k + 1) (length ts)) (gives (sequence (take (length ts - (k + 1)) ts))) (traps Range)

-- `reverse(v)`
abbrev pub reversed : List ValueTree → Outcome
reversed ts = gives (sequence (reverse ts))

-- how many places a sequence of n elements is turned by k: k modulo n
abbrev pub places_on : ℕ → ℤ → ℕ
places_on zero k = 0
places_on (suc n) k = unsigned_abs (int_rem_euclid k (pos (suc n)))

-- `rotate(v, k)`: the elements that go over the end come first, in order, and then the others
abbrev pub rotated : List ValueTree → ℤ → Outcome
rotated ts k = let start = length ts - places_on (length ts) k in gives (sequence (drop start ts ++ take start ts))

-- `rep(v, x, i)`: v with x at place i
abbrev pub replaced : List ValueTree → ValueTree → ℤ → Outcome
replaced ts x (pos i) = cond (nat_lt i (length ts)) (gives (sequence (slice_set ts i x))) (traps Range)
replaced ts x (negsuc i) = traps Range
