-- What is charged at places.
use Rattle.std.specs.Prelude.{◌≡◌, ℕ, ◌+◌, Bool, List, Option, Some, None, if◌then◌else◌}
use Rattle.std.specs.List.{sum_by}
use Rattle.nesl_cost_meaning.specs.Cost.{Place, Charge}

-- the work, and the depth, that is charged at the places that are picked
abbrev pub work_at : (Place → Bool) → List Charge → ℕ
work_at picked cs = sum_by (λ c. if picked c.place then c.work else 0) cs

abbrev pub depth_at : (Place → Bool) → List Charge → ℕ
depth_at picked cs = sum_by (λ c. if picked c.place then c.depth else 0) cs

-- whichever places are picked, the same work, or depth, is charged there
abbrev pub SameWork : List Charge → List Charge → Type 0
SameWork cs ds = (picked : Place → Bool) → work_at picked cs ≡ work_at picked ds

abbrev pub SameDepth : List Charge → List Charge → Type 0
SameDepth cs ds = (picked : Place → Bool) → depth_at picked cs ≡ depth_at picked ds

-- a charge without its depth
abbrev pub work_alone : Charge → Charge
work_alone c = record { place = c.place; entries = c.entries; work = c.work; depth = 0; decides = c.decides }

-- a turn that decides does so once
abbrev pub times : Option ℕ → ℕ
times (Some i) = 1
times None = 0

-- a charge on the critical path without its work, which is charged elsewhere
abbrev pub depth_alone : Charge → Charge
depth_alone c = record { place = c.place; entries = times c.decides; work = 0; depth = c.depth; decides = c.decides }

-- two charges at one place, together
abbrev pub Joins : Charge → Charge → Charge → Type 0
Joins c d e = (e.place ≡ c.place) × (e.work ≡ c.work + d.work) × (e.depth ≡ c.depth + d.depth)
