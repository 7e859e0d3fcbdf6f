use Rattle.nesl_values.specs.Tree.{int, boolean, character}
use Rattle.nesl_values.specs.View.{tree_of}
use Rattle.nesl_values.proofs.Trees.{slice_range-map}
use Rattle.nesl_values.proofs.items.Items.part.Goals as goal

pub returns-in-Ints : goal.returns-in-Ints
returns-in-Ints g c = rw c.in-Ints.is (slice_range-map int c.in-Ints.ints.now c.args.start c.args.end)

pub returns-in-Bools : goal.returns-in-Bools
returns-in-Bools g c = rw c.in-Bools.is (slice_range-map boolean c.in-Bools.bools.now c.args.start c.args.end)

pub returns-in-Chars : goal.returns-in-Chars
returns-in-Chars g c = rw c.in-Chars.is (slice_range-map character c.in-Chars.chars.now c.args.start c.args.end)

pub returns-in-Values : goal.returns-in-Values
returns-in-Values g c = rw c.in-Values.is (slice_range-map tree_of c.in-Values.values.now c.args.start c.args.end)
