use Rattle.std.proofs.Common.{◌≡◌, ◌++◌, ◌≤◌, take, map, vec_len}
use Rattle.nesl_values.specs.View.{tree_of}
use Rattle.nesl_values_builder.proofs.builder.push_copies.Given as goal

abbrev pub invariant-loop-value : goal.invariant-loop-value
invariant-loop-value g l =
    (map tree_of l.values.items ≡ map tree_of l.fn.values.items ++ map tree_of (take l.value-index l.more)) × (take (vec_len l.fn.values) l.values.items ≡ l.fn.values.items) × (vec_len l.fn.values ≤ vec_len l.values)
