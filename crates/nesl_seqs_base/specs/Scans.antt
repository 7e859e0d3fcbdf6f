-- Scans: what is computed from the elements before each.
use Rattle.std.specs.Prelude.{ℤ, pos, negsuc, Bool, List, length, map, take, cond, ◌||◌, ◌&&◌}
use Rattle.std.specs.List.{range_with_len, list_any, list_all, fold}
use Rattle.std.specs.Int.{w64, int_bit_and, int_bit_or}
use Rattle.nesl_scalars.specs.declared.trap.Trap.TheVariants.{Overflow}
use Rattle.nesl_values.specs.Tree.{ValueTree, int, boolean, sequence}
use Rattle.nesl_seqs_base.specs.Outcome.{Outcome, gives, traps, if_there, if_there_or, fits}
use Rattle.nesl_seqs_base.specs.Arguments.{numbers, truths}
use Rattle.nesl_seqs_base.specs.Reductions.{total}
use Rattle.nesl_seqs_base.specs.declared.joint.Joint.{Joint}
use Rattle.nesl_seqs_base.specs.declared.joint.Joint.TheVariants.{Or, And}

-- as many as there are elements: the one at place k is what f makes of the k elements before
abbrev pub before_each : {X Y : Type 0} → (List X → Y) → List X → List Y
before_each f xs = map (λ k. f (take k xs)) (range_with_len 0 (length xs))

-- `plus_scan(v)`: the sums of those before each
abbrev pub plus_scanned : List ℤ → Outcome
plus_scanned zs =
    let sums = before_each total zs in cond (list_all fits sums) (gives (sequence (map int sums))) (traps Overflow)

-- one is true, or all are
abbrev pub joined_truths : Joint → List Bool → Bool
joined_truths Or bs = list_any (λ b. b) bs
joined_truths And bs = list_all (λ b. b) bs

-- two truth values joined
abbrev pub join_truths : Joint → Bool → Bool → Bool
join_truths Or b c = b || c
join_truths And b c = b && c

-- two numbers of 64 bits joined bit by bit
abbrev pub join_bits : Joint → ℤ → ℤ → ℤ
join_bits Or y z = int_bit_or w64 y z
join_bits And y z = int_bit_and w64 y z

-- the number with no bit, or with all
abbrev pub no_bits_joined : Joint → ℤ
no_bits_joined Or = pos 0
no_bits_joined And = negsuc 0

-- all numbers joined bit by bit
abbrev pub joined_bits : Joint → List ℤ → ℤ
joined_bits j zs = fold (join_bits j) (no_bits_joined j) zs

-- `or_scan(v)` and `and_scan(v)`: of truth values, or of numbers
abbrev pub logic_scanned : Joint → ValueTree → Outcome
logic_scanned j t = if_there_or (truths t) (λ bs. gives (sequence (map boolean (before_each (joined_truths j) bs))))
    (if_there (numbers t) (λ zs. gives (sequence (map int (before_each (joined_bits j) zs)))))
