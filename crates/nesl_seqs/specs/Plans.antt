-- What a plan builds, and for which price.
use Rattle.std.specs.Prelude.{◌≡◌, ℕ, ⊤, Result, Ok, Err}
use Rattle.nesl_scalars.specs.declared.trap.Trap.{Trap}
use Rattle.nesl_values.specs.Tree.{ValueTree}
use Rattle.nesl_seqs_base.specs.Outcome.{Outcome, gives, traps, undefined}
use Rattle.nesl_seqs.specs.FoldPlans as folds
use Rattle.nesl_seqs_build.specs.Plans as builds
use Rattle.nesl_seqs_index.specs.Plans as indexes
use Rattle.nesl_seqs.specs.declared.plans.Plan.{Plan}

-- the tree that is built
abbrev pub built : {A : Type 0} → Plan A → ValueTree
built (Plan.Fold p) = folds.built p
built (Plan.Build p) = builds.built p
built (Plan.Index p) = indexes.built p

-- how many elements are read
abbrev pub read_by : {A : Type 0} → Plan A → ℕ
read_by (Plan.Fold p) = folds.read_by p
read_by (Plan.Build p) = builds.read_by p
read_by (Plan.Index p) = indexes.read_by p

-- the longest chain of steps
abbrev pub depth_by : {A : Type 0} → Plan A → ℕ
depth_by (Plan.Fold p) = folds.depth_by p
depth_by (Plan.Build p) = 1
depth_by (Plan.Index p) = 1

-- what is known of what is planned
abbrev pub IsSound : {A : Type 0} → Plan A → Type 0
IsSound (Plan.Fold p) = ⊤
IsSound (Plan.Build p) = builds.IsSound p
IsSound (Plan.Index p) = indexes.IsSound p

-- the plan builds the outcome from as many elements in as many steps, or the fault is the outcome, or it is undefined
-- and there is some fault
abbrev pub Plans : {A : Type 0} → Outcome → ℕ → ℕ → Result (Plan A) Trap → Type 0
Plans o read depth (Ok p) = (o ≡ gives (built p)) × (read_by p ≡ read) × (depth_by p ≡ depth) × IsSound p
Plans (gives t) read depth (Err e) = ⊥
Plans (traps d) read depth (Err e) = e ≡ d
Plans undefined read depth (Err e) = Unit {0}
