use Rattle.std.proofs.Common.{◌≡◌, ◌++◌, ◌≤◌, take, map, vec_len}
use Rattle.nesl_values.specs.View.{tree_of}
use Rattle.nesl_values_builder.proofs.builder.push_leaves.Given as goal

abbrev pub invariant-loop-leaf : goal.invariant-loop-leaf
invariant-loop-leaf g l =
    (map tree_of l.values.items ≡ map tree_of l.fn.values.items ++ map g.T.Leaf.leaf (take l.leaf-index l.more)) × (take (vec_len l.fn.values) l.values.items ≡ l.fn.values.items) × (vec_len l.fn.values ≤ vec_len l.values)
