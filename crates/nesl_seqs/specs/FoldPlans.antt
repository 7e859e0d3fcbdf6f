-- What a plan builds, and for which price.
use Rattle.std.specs.Prelude.{◌≡◌, ℕ, ◌+◌, length, map, Result, Ok, Err}
use Rattle.nesl_scalars.specs.declared.trap.Trap.{Trap}
use Rattle.nesl_values.specs.Tree.{ValueTree, int, boolean, sequence, size}
use Rattle.nesl_values.specs.View.{tree_of}
use Rattle.nesl_seqs_base.specs.Equal.{tree_eq}
use Rattle.nesl_seqs_base.specs.Lent.{argument_tree}
use Rattle.nesl_seqs_base.specs.Outcome.{Outcome, gives, traps, undefined}
use Rattle.nesl_seqs_base.specs.Prices.{digits}
use Rattle.nesl_seqs_base.specs.Scans.{before_each, joined_truths, joined_bits}
use Rattle.nesl_seqs.specs.Elements.{numbers_of, truths_of, wrapped_total}
use Rattle.nesl_seqs.specs.Scalar.{scalar_tree}
use Rattle.nesl_seqs.specs.declared.fold.plan.Plan.{Plan}

-- the tree that is built
abbrev pub built : {A : Type 0} → Plan A → ValueTree
built (Plan.Leaf s n) = scalar_tree s
built (Plan.Sum ns) = int (wrapped_total ns.now)
built (Plan.Equality x y) = boolean (tree_eq (tree_of x.now) (argument_tree y))
built (Plan.Sums ns) = sequence (map int (before_each wrapped_total (numbers_of ns)))
built (Plan.JoinedTruths j bs) = sequence (map boolean (before_each (joined_truths j) (truths_of bs)))
built (Plan.JoinedNumbers j ns) = sequence (map int (before_each (joined_bits j) (numbers_of ns)))

-- how many elements are read
abbrev pub read_by : {A : Type 0} → Plan A → ℕ
read_by (Plan.Leaf s n) = n
read_by (Plan.Sum ns) = length ns.now
read_by (Plan.Equality x y) = size (tree_of x.now) + size (argument_tree y)
read_by (Plan.Sums ns) = length (numbers_of ns)
read_by (Plan.JoinedTruths j bs) = length (truths_of bs)
read_by (Plan.JoinedNumbers j ns) = length (numbers_of ns)

-- the longest chain of steps
abbrev pub depth_by : {A : Type 0} → Plan A → ℕ
depth_by (Plan.Leaf s n) = 1 + digits n
depth_by (Plan.Sum ns) = 1 + digits (length ns.now)
depth_by (Plan.Equality x y) = 1
depth_by (Plan.Sums ns) = 1 + digits (length (numbers_of ns))
depth_by (Plan.JoinedTruths j bs) = 1 + digits (length (truths_of bs))
depth_by (Plan.JoinedNumbers j ns) = 1 + digits (length (numbers_of ns))

-- the plan builds the outcome from as many elements in as many steps, or the fault is the outcome, or it is undefined
-- and there is some fault
abbrev pub Plans : {A : Type 0} → Outcome → ℕ → ℕ → Result (Plan A) Trap → Type 0
Plans o read depth (Ok p) = (o ≡ gives (built p)) × (read_by p ≡ read) × (depth_by p ≡ depth)
Plans (gives t) read depth (Err e) = ⊥
Plans (traps d) read depth (Err e) = e ≡ d
Plans undefined read depth (Err e) = Unit {0}
