-- How many nodes lent values have.
use Rattle.std.specs.Prelude.{◌<◌, ◌^◌}
use Rattle.nesl_values.specs.Tree.{size}
use Rattle.nesl_values.specs.View.{tree_of}
use Rattle.nesl_seqs_base.specs.declared.argument.Argument.{Argument}

-- each lent value has fewer than 2^64 nodes, as any value has
abbrev pub HasFewNodes : {A : Type 0} → Argument A → Type 0
HasFewNodes (Argument.One x) = size (tree_of x.now) < 2 ^ 64
HasFewNodes (Argument.Two x y) = (size (tree_of x.now) < 2 ^ 64) × (size (tree_of y.now) < 2 ^ 64)
HasFewNodes (Argument.Three x y z) =
    (size (tree_of x.now) < 2 ^ 64) × (size (tree_of y.now) < 2 ^ 64) × (size (tree_of z.now) < 2 ^ 64)
