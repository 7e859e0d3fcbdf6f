-- The values of a body at the turns of a block.
use Rattle.std.specs.Prelude.{◌≡◌, ℕ, List, [], ◌∷◌, map}
use Rattle.nesl_values.specs.Tree.{pair, size}
use Rattle.nesl_values.specs.View.{tree_of}
use Rattle.nesl_eval_meaning.specs.Names.{Value}
use Rattle.nesl_eval_columns.specs.Columns.{leaves_of}
use Rattle.nesl_eval_column_results.specs.declared.values.Values.{Values}
use Rattle.nesl_eval_column_results.specs.declared.values.Values.TheVariants.{Leaves, Pairs}

-- the value at each turn
abbrev pub trees_in : {A : Type 0} → Values A → List Value
trees_in (Leaves c) = leaves_of c
trees_in (Pairs v) = map tree_of v.items

-- the pairs of the values at the same turn
abbrev pub pairs_of : List Value → List Value → List Value
pairs_of (x ∷ xs) (y ∷ ys) = pair x y ∷ pairs_of xs ys
pairs_of _ _ = []

-- each has `n` nodes
abbrev pub AreOfSize : ℕ → List Value → Type 0
AreOfSize n [] = Unit {0}
AreOfSize n (v ∷ vs) = (size v ≡ n) × AreOfSize n vs
