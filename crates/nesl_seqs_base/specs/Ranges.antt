-- Sequences from numbers.
use Rattle.std.specs.Prelude.{ℕ, zero, suc, ◌+◌, ◌-◌, ◌*◌, ◌/◌, ℤ, pos, negsuc, ◌+ℤ◌, List, map, replicate}
use Rattle.std.specs.List.{range_with_len}
use Rattle.std.specs.Int.{int_gap}
use Rattle.nesl_scalars.specs.declared.trap.Trap.TheVariants.{Length, Stride}
use Rattle.nesl_values.specs.Tree.{ValueTree, int, sequence}
use Rattle.nesl_seqs_base.specs.Outcome.{Outcome, gives, traps}

-- `dist(x, k)`: k times x
abbrev pub repeated : ValueTree → ℤ → Outcome
repeated t (pos k) = gives (sequence (replicate k t))
repeated t (negsuc k) = traps Length

-- the n numbers from s on, each d above the one before it
abbrev pub progression : ℤ → ℕ → ℕ → List ValueTree
progression s d n = map (λ j. int (s +ℤ pos (j * d))) (range_with_len 0 n)

-- how many of s, s + d, s + 2d and so on are below e: the distance from s to e in steps of d, rounded up
abbrev pub steps_below : ℤ → ℤ → ℕ → ℕ
steps_below s e d = (int_gap s e + (d - 1)) / d

-- `[s:e:d]`
abbrev pub ranged : ℤ → ℤ → ℤ → Outcome
ranged s e (pos (suc d)) = gives (sequence (progression s (suc d) (steps_below s e (suc d))))
ranged s e (pos zero) = traps Stride
ranged s e (negsuc d) = traps Stride

-- `index(k)`: the first k whole numbers
abbrev pub first_numbers : ℤ → Outcome
first_numbers (pos k) = gives (sequence (progression (pos 0) 1 k))
first_numbers (negsuc k) = traps Length
