-- The tree that a lent argument is.
use Rattle.nesl_values.specs.Tree.{ValueTree, pair}
use Rattle.nesl_values.specs.View.{tree_of}
use Rattle.nesl_seqs_base.specs.declared.argument.Argument.{Argument}

-- one value, the pair of two, or the first with the pair of the others
abbrev pub argument_tree : {A : Type 0} → Argument A → ValueTree
argument_tree (Argument.One x) = tree_of x.now
argument_tree (Argument.Two x y) = pair (tree_of x.now) (tree_of y.now)
argument_tree (Argument.Three x y z) = pair (tree_of x.now) (pair (tree_of y.now) (tree_of z.now))
