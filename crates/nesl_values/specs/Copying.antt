-- How far the copying of a value has come.
use Rattle.std.specs.Prelude.{ℕ, ◌+◌, ◌*◌, ◌-◌, List, [], ◌∷◌, ◌++◌, map}
use Rattle.nesl_values.specs.Tree.{ValueTree, pair, tagged, sequence, size, sizes}
use Rattle.nesl_values.specs.View.{tree_of, trees_view}
use Rattle.nesl_values.specs.declared.copy.Frame.{Frame}

-- the node that has that child, by what is known of its other children
abbrev pub around : {A B : Type 0} → Frame A B → ValueTree → ValueTree
around (Frame.Left right) t = pair t (tree_of right.now)
around (Frame.Right left) t = pair (tree_of left) t
around (Frame.Tagged tag) t = tagged tag t
around (Frame.Element copies others) t = sequence (map tree_of copies.items ++ t ∷ map tree_of others.now)

-- the root that has that tree below those nodes, the root first
abbrev pub all_around : {A B : Type 0} → List (Frame A B) → ValueTree → ValueTree
all_around [] t = t
all_around (f ∷ fs) t = around f (all_around fs t)

-- bounds on the steps that are left
abbrev pub work_below : ValueTree → ℕ
work_below t = 3 * size t - 1

abbrev pub work_around : {A B : Type 0} → Frame A B → ℕ
work_around (Frame.Left right) = 3 * size (tree_of right.now) + 1
work_around (Frame.Right left) = 1
work_around (Frame.Tagged tag) = 1
work_around (Frame.Element copies others) = 3 * sizes (trees_view others.now) + 1

abbrev pub work_above : {A B : Type 0} → List (Frame A B) → ℕ
work_above [] = 0
work_above (f ∷ fs) = work_around f + work_above fs
