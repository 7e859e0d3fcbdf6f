-- The time of an account on a number of processors.
use Rattle.std.specs.Prelude.{◌≡◌, ℕ, ◌≤◌}
use Rattle.nesl_cost_meaning.specs.Cost.{Cost, work_in, depth_in}
use Rattle.nesl_cost_meaning.specs.Steps.{levels_in, steps, BrentHolds}

-- A cost of this work and depth takes a number of steps between these, level by level, if Brent's bounds hold of it.
-- They hold of each value's cost.
abbrev pub BoundSteps : (processors work depth least most : ℕ) → Type 0
BoundSteps p w d least most =
    (c : Cost) → work_in c ≡ w → depth_in c ≡ d → BrentHolds p c
    → (least ≤ steps p (levels_in c).each) × (steps p (levels_in c).each ≤ most)
