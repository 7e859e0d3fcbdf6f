-- The children of a node are smaller than the node.
use Rattle.std.specs.Prelude.{◌≤◌, ◌+◌, max, map, List, [], ◌∷◌}
use Rattle.std.specs.declared.alloc.Allocator.{Ghosts}
use Rattle.std.proofs.Common.{arith}
use denote.Param.Weighed.{most}
use Rattle.nesl_values.specs.Tree.{trees_of, size, sizes}
use Rattle.nesl_values.specs.View.{tree_of, parts_tree}
use Rattle.nesl_values.specs.declared.value.Value.{Value}
use Rattle.nesl_values.specs.declared.value.Value.TheVariants.{Int, Bool, Char, Shared}
use Rattle.nesl_values.specs.declared.node.Parts.{Parts}
use Rattle.nesl_values.specs.declared.node.Parts.TheVariants.{Pair, Tagged, Seq, Ints, Bools, Chars}
use Rattle.nesl_values.specs.declared.node.Node.TheDeep.{deep-Parts, deep-Value}

pub deep_value_le : {A : Type 0} → (g : Ghosts A) → (v : Value A) → deep-Value A g v ≤ size (tree_of v) + 1
deep_value_le g (Int n) = omega arith
deep_value_le g (Bool b) = omega arith
deep_value_le g (Char c) = omega arith
deep_value_le g (Shared node) = omega arith

pub most_le : {A : Type 0} → (g : Ghosts A) → (vs : List (Value A))
    → most (deep-Value A g) vs ≤ sizes (trees_of (map tree_of vs)) + 1
most_le g [] = omega arith
most_le g (v ∷ vs) = omega (arith, most_le g vs, deep_value_le g v)

pub depth_le : {A : Type 0} → (g : Ghosts A) → (p : Parts A) → max (deep-Parts A g p) 0 ≤ size (parts_tree p)
depth_le g (Pair l r) = omega (arith, deep_value_le g l, deep_value_le g r)
depth_le g (Tagged n v) = omega (arith, deep_value_le g v)
depth_le g (Seq vs) = omega (arith, most_le g vs.items)
depth_le g (Ints ns) = omega arith
depth_le g (Bools bs) = omega arith
depth_le g (Chars cs) = omega arith
