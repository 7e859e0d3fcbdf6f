-- The frames at the turns of a block, and what is found there.
use Rattle.std.specs.Prelude.{◌≡◌, ℕ, ◌<◌, List, [], ◌∷◌, map, slice_get, Option, Some, option_map, option_and_then}
use Rattle.std.specs.Prelude.{IsSomeAnd}
use Rattle.nesl_eval_code.specs.declared.code.Step.{Step}
use Rattle.nesl_eval_meaning.specs.Names.{Value}
use Rattle.nesl_eval_code.specs.Frames.{Frames}
use Rattle.nesl_eval_meaning.specs.Out.{Out, value}
use Rattle.nesl_eval_columns.specs.Columns.{leaves_of}
use Rattle.nesl_eval_column_results.specs.declared.block.Block.{Block}
use Rattle.nesl_eval_column_results.specs.declared.columns.Columns.{Columns}
use Rattle.nesl_eval_column_results.specs.declared.found.Found.{Found}
use Rattle.nesl_eval_column_results.specs.declared.scopes.Scopes.{Scopes, fold-Scopes}
use Rattle.nesl_eval_column_results.specs.declared.scopes.Scopes.TheOpen.{Scopes-F}
use Rattle.nesl_eval_column_results.specs.Blocks.{block_places, frames_at}
use Rattle.nesl_eval_column_results.specs.Columns.{value_at, Leads}
use Rattle.nesl_eval_column_results.specs.Costs.{costs_at}

-- the values of bindings at a turn
abbrev pub bound_at : {A : Type 0} → List (Columns A) → ℕ → List (Option Value)
bound_at cs k = map (λ c. value_at c k) cs

-- the frames at a turn, if there is such a turn
abbrev pub scopes_step : {A T : Type 0} → Block A T → Scopes-F A (ℕ → Option Frames) → ℕ → Option Frames
scopes_step b Scopes-F.Rows k = option_map (frames_at b) (slice_get (block_places b) k)
scopes_step b (Scopes-F.Let cs rest) k = option_map (λ fs. bound_at cs.now k ∷ fs) (rest.now k)
scopes_step b (Scopes-F.Call c rest) k = option_map (λ fs. (value_at c.now k ∷ []) ∷ []) (rest.now k)
scopes_step b (Scopes-F.Turns ts rest) k = option_and_then rest.now (slice_get ts.now k)

abbrev pub frames_in : {A T : Type 0} → Block A T → Scopes A → ℕ → Option Frames
frames_in {A} b = fold-Scopes A (ℕ → Option Frames) (scopes_step b)

-- the outcome is the leaf at a turn, and both the work and the depth are the cost there
abbrev pub IsAt : (ℕ → Option Value) → (ℕ → Option ℕ) → ℕ → Out Value → Type 0
IsAt vs ns k o = (v : Value) × (n : ℕ) × (vs k ≡ Some v) × (ns k ≡ Some n) × (o ≡ value v n n)

-- the same at each turn
abbrev pub AreAt : (Frames → Out Value) → (ℕ → Option Frames) → (ℕ → Option Value) → (ℕ → Option ℕ) → Type 0
AreAt p at vs ns = (k : ℕ) (fs : Frames) → at k ≡ Some fs → IsAt vs ns k (p fs)

-- the leaf at a turn
abbrev pub leaf_at : {A : Type 0} → Found A → ℕ → Option Value
leaf_at r = slice_get (leaves_of r.column)

-- the cost at a turn
abbrev pub cost_at : {A : Type 0} → Found A → ℕ → Option ℕ
cost_at r = costs_at r.costs

-- what was found at the turns, without cost
abbrev pub NeedsNothing : {A : Type 0} → (Frames → Out Value) → (ℕ → Option Frames) → Columns A → Type 0
NeedsNothing p at c = AreAt p at (value_at c) (λ k. Some 0)

-- the values are what the steps lead to from a binding, which has values at the turns below `least`
abbrev pub StandsFor : {A : Type 0} → Columns A → ℕ → List Step → (ℕ → Option Value) → Type 0
StandsFor c least steps ys =
    ((k : ℕ) → k < least → (v : Value) × (value_at c k ≡ Some v)) × Leads steps (value_at c) ys

-- the same from the binding at that place
abbrev pub StandsAt : {A : Type 0} → List (Columns A) → ℕ → ℕ → List Step → (ℕ → Option Value) → Type 0
StandsAt cs index least steps ys = IsSomeAnd (slice_get cs index) (λ c. StandsFor c least steps ys)

-- the outcome is the same at all turns
abbrev pub AllAre : (Frames → Out Value) → (ℕ → Option Frames) → Out Value → Type 0
AllAre p at o = (k : ℕ) (fs : Frames) → at k ≡ Some fs → p fs ≡ o
