-- The elements of a sequence in the making.
use Rattle.std.specs.Prelude.{List, [], map}
use Rattle.nesl_values.specs.Tree.{ValueTree, int, boolean, character}
use Rattle.nesl_values.specs.View.{tree_of}
use Rattle.nesl_values_builder.specs.declared.builder.SequenceBuilder.{SequenceBuilder}
use Rattle.nesl_values_builder.specs.declared.run.Run.{Run}

abbrev pub run_trees : {A : Type 0} → Run A → List ValueTree
run_trees Run.Empty = []
run_trees (Run.Ints v) = map int v.items
run_trees (Run.Bools v) = map boolean v.items
run_trees (Run.Chars v) = map character v.items
run_trees (Run.Values v) = map tree_of v.items

-- the elements that a builder has so far
abbrev pub elements_of : {A : Type 0} → SequenceBuilder A → List ValueTree
elements_of b = run_trees b.run
