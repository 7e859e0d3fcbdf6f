-- What is found at the turns of a block.
use Rattle.std.specs.Prelude.{◌≡◌, ℕ, Bool, slice_get, Option, Some}
use Rattle.nesl_eval_meaning.specs.Names.{Value}
use Rattle.nesl_eval_code.specs.Frames.{Frames}
use Rattle.nesl_eval_meaning.specs.Out.{Out}
use Rattle.nesl_eval_meaning.specs.Outcome.{branch}
use Rattle.nesl_eval_column_results.specs.declared.found.Found.{Found}
use Rattle.nesl_eval_column_results.specs.declared.found.Results.{Results}
use Rattle.nesl_eval_column_results.specs.Columns.{value_at}
use Rattle.nesl_eval_column_results.specs.Costs.{costs_at}
use Rattle.nesl_eval_plain.specs.declared.bodies.Bodies.{Bodies}
use Rattle.nesl_eval_column_results.specs.Frames.{AreAt, IsAt, leaf_at, cost_at}
use Rattle.nesl_eval_column_results.specs.Values.{trees_in, AreOfSize}

-- what was found at the turns, as leaves
abbrev pub Finds : {A : Type 0} → (Frames → Out Value) → (ℕ → Option Frames) → Found A → Type 0
Finds p at r = AreAt p at (leaf_at r) (cost_at r)

-- what was found at the turns, as values
abbrev pub Yields : {A : Type 0} → (Frames → Out Value) → (ℕ → Option Frames) → Results A → Type 0
Yields p at r = AreAt p at (value_at r.values) (costs_at r.costs)

-- of two outcomes the one that the flag at a turn chooses is the leaf there, and both its work and its depth are the
-- cost
abbrev pub Chooses
    : (ℕ → Option Bool) → (Frames → Out Value) → (Frames → Out Value) → (ℕ → Option Frames) → (ℕ → Option Value)
    → (ℕ → Option ℕ) → Type 0
Chooses bs p q at vs ns =
    (k : ℕ) (fs : Frames) (b : Bool) → at k ≡ Some fs → bs k ≡ Some b → IsAt vs ns k (branch (Some b) (p fs) (q fs))

-- what was found at the turns
abbrev pub FindsValues : {A : Type 0} → (Frames → Out Value) → (ℕ → Option Frames) → Bodies A → Type 0
FindsValues p at r =
    AreAt p at (slice_get (trees_in r.values)) (costs_at r.costs) × AreOfSize r.nodes (trees_in r.values)
