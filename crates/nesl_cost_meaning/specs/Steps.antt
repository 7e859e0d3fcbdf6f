-- How many steps an account takes on a number of processors, level by level.
use Rattle.std.specs.Prelude.{◌≡◌, ℕ, zero, suc, ◌+◌, ◌*◌, ◌<◌, ◌≤◌, max, List, [], ◌∷◌, ◌++◌, length}
use Rattle.std.specs.Int.{div_ceil}
use Rattle.nesl_syntax_tree.specs.Trees.{Tree}
use Rattle.nesl_eval_meaning.specs.Names.{Scope, Environment}
use Rattle.nesl_cost_meaning.specs.Traced.{Traced, value, fault, stuck, traced}
use Rattle.nesl_cost_meaning.specs.Cost.{Cost, free, entered, besides, after, turn, called, work_in, depth_in}

-- the work at each level, in order, and the work before the first of them
pub record Levels : Type 0 where
  pub before : ℕ
  pub each : List ℕ

abbrev pub levels : ℕ → List ℕ → Levels
levels n ws = record { before = n; each = ws }

-- a number of levels without work
abbrev pub idle : ℕ → List ℕ
idle zero = []
idle (suc n) = 0 ∷ idle n

-- work of no depth is done at the level that is last
abbrev pub onto_last : ℕ → List ℕ → ℕ → List ℕ
onto_last w [] n = (w + n) ∷ []
onto_last w (v ∷ ws) n = w ∷ onto_last v ws n

abbrev pub one_after : Levels → Levels → Levels
one_after l m = behind l.each
  where
    behind : List ℕ → Levels
    behind [] = levels (l.before + m.before) m.each
    behind (w ∷ ws) = levels l.before (onto_last w ws m.before ++ m.each)

-- level by level, as long as both have any
abbrev pub together : List ℕ → List ℕ → List ℕ
together [] vs = vs
together (w ∷ ws) [] = w ∷ ws
together (w ∷ ws) (v ∷ vs) = (w + v) ∷ together ws vs

abbrev pub of_depth : ℕ → ℕ → Levels
of_depth w zero = levels w []
of_depth w (suc d) = levels 0 (w ∷ idle d)

-- the levels of a cost: turns are side by side
abbrev pub levels_in : Cost → Levels
levels_in free = levels 0 []
levels_in (entered s) = levels 0 (1 ∷ [])
levels_in (besides s w d) = of_depth w d
levels_in (after c e) = one_after (levels_in c) (levels_in e)
levels_in (turn s i c e) =
    levels ((levels_in c).before + (levels_in e).before) (together (levels_in c).each (levels_in e).each)
levels_in (called x s c) = levels_in c

abbrev pub total : List ℕ → ℕ
total [] = 0
total (w ∷ ws) = w + total ws

-- a level's work on p processors takes a step at least
abbrev pub steps : ℕ → List ℕ → ℕ
steps p [] = 0
steps p (w ∷ ws) = max 1 (div_ceil w p) + steps p ws

-- all work is at some level, and the number of levels is the depth
abbrev pub HasLevels : Cost → Type 0
HasLevels c =
    ((levels_in c).before + total (levels_in c).each ≡ work_in c) × (length (levels_in c).each ≡ depth_in c)

-- on p processors the levels take no fewer steps than the depth and the p-th part of the work, and no more than both
-- together
abbrev pub BrentHolds : ℕ → Cost → Type 0
BrentHolds p c =
    (depth_in c ≤ steps p (levels_in c).each) × (work_in c ≤ steps p (levels_in c).each * p)
    × (steps p (levels_in c).each * p ≤ work_in c + depth_in c * p)

-- this holds of the account of a value
abbrev pub IsBounded : {X : Type 0} → ℕ → Traced X → Type 0
IsBounded p (value x c) = HasLevels c × BrentHolds p c
IsBounded p (fault t s at c) = HasLevels c
IsBounded p stuck = Unit {0}

abbrev pub StepsOnProcessors : Type 0
StepsOnProcessors =
    (p n : ℕ) (env : Environment) (sc : Scope) (e : Tree) → 0 < p → IsBounded p (traced n env sc e)
