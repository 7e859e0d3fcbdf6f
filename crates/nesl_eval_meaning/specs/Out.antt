-- The outcomes of evaluations, without budget, thread or order of work.
use Rattle.std.specs.Prelude.{ℕ, ◌+◌, max, nat_le, List, [], ◌∷◌, ◌++◌, Option, Some, None, if◌then◌else◌}
use Rattle.nesl_lex.specs.declared.token.Span.{Span}
use Rattle.nesl_scalars.specs.declared.trap.Trap.{Trap}

-- a value with its work and depth; a fault with its place and the work until then; or neither: a part has the wrong
-- shape
pub data Out (X : Type 0) : Type 0 where
  value : X → (work depth : ℕ) → Out X
  fault : Trap → Span → (work : ℕ) → Out X
  stuck : Out X

-- the same after this work and depth
abbrev pub after_cost : {X : Type 0} → ℕ → ℕ → Out X → Out X
after_cost w d (value x w' d') = value x (w + w') (d + d')
after_cost w d (fault t s w') = fault t s (w + w')
after_cost w d stuck = stuck

-- an outcome, and then the one that depends on its value
abbrev pub and_then : {X Y : Type 0} → Out X → (X → Out Y) → Out Y
and_then (value x w d) k = after_cost w d (k x)
and_then (fault t s w) k = fault t s w
and_then stuck k = stuck

-- what depends on something that may not be there
abbrev pub given : {X Y : Type 0} → Option X → (X → Out Y) → Out Y
given (Some x) k = k x
given None k = stuck

-- a fault inside a called body has the span of the call
abbrev pub at_call : {X : Type 0} → Span → Out X → Out X
at_call s (value x w d) = value x w d
at_call s (fault t s' w) = fault t s w
at_call s stuck = stuck

-- two lists side by side: the works add, the greater depth counts, and the first fault in order is the fault
abbrev pub beside : {X : Type 0} → Out (List X) → Out (List X) → Out (List X)
beside (value xs w d) (value ys w' d') = value (xs ++ ys) (w + w') (max d d')
beside (value xs w d) (fault t s w') = fault t s (w + w')
beside (value xs w d) stuck = stuck
beside (fault t s w) o = fault t s w
beside stuck o = stuck

-- all of them side by side
abbrev pub all_beside : {I X : Type 0} → (I → Out (List X)) → List I → Out (List X)
all_beside f [] = value [] 0 0
all_beside f (i ∷ is) = beside (f i) (all_beside f is)

-- the work of an outcome
abbrev pub work_of : {X : Type 0} → Out X → ℕ
work_of (value x w d) = w
work_of (fault t s w) = w
work_of stuck = 0

-- an outcome under a budget: only the whole work decides
pub data Budgeted (X : Type 0) : Type 0 where
  fits_budget : Out X → Budgeted X
  exceeds_budget : Budgeted X

-- the outcome, where its work is within the budget
abbrev pub within : {X : Type 0} → ℕ → Out X → Budgeted X
within b o = if nat_le (work_of o) b then fits_budget o else exceeds_budget
