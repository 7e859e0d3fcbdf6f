-- How far the dropping of a value has come.
use Rattle.std.specs.Prelude.{◌≡◌, ℕ, ◌+◌, ◌<◌, ◌≤◌, ◌^◌, List, map}
use Rattle.nesl_values.specs.Weight.{weight, weights}
use Rattle.nesl_values.specs.Tree.{ValueTree, trees_of, size}
use Rattle.nesl_values.specs.View.{tree_of}
use Rattle.nesl_values.specs.declared.value.Value.{Value}
use Rattle.nesl_values.specs.declared.dropping.Way.{Way}
use Rattle.nesl_values.specs.declared.dropping.Turn.{Turn}

-- a node `old` becomes `new`, as a child makes way for the parent `above`
abbrev pub Enters : {A : Type 0} → Way A → ValueTree → ValueTree → ValueTree → Type 0
Enters (Way.Down child) old new above =
    (weight (tree_of child) + weight new ≡ weight old + weight above)
    × (weight (tree_of child) < weight old)
    × (size new + size (tree_of child) ≡ size old + size above)
Enters (Way.End parent) old new above = (tree_of parent ≡ above) × (weight new ≡ weight old)

-- a node `old` becomes `new`, as the next child or the parent is taken out
abbrev pub TurnLessens : {A : Type 0} → Turn A → ValueTree → ValueTree → Type 0
TurnLessens (Turn.Down child) old new =
    (weight (tree_of child) + weight new < weight old) × (size (tree_of child) + size new ≤ 2 ^ 64)
TurnLessens (Turn.Up parent) old new = (weight (tree_of parent) < weight old) × (weight new ≤ weight old)
TurnLessens Turn.Stuck old new = weight new ≤ weight old

abbrev pub heft : {A : Type 0} → List (Value A) → ℕ
heft vs = weights (trees_of (map tree_of vs))
