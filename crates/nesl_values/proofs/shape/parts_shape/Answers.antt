use Rattle.std.proofs.Common.{◌∙◌, ap}
use Rattle.nesl_values.specs.Tree.{int, boolean, character}
use Rattle.nesl_values.specs.View.{tree_of, parts_tree}
use Rattle.nesl_values.proofs.Sequences.{shows_of}
use Rattle.nesl_values.proofs.shape.parts_shape.Goals as goal

pub returns-in-Seq : goal.returns-in-Seq
returns-in-Seq g c = shows_of tree_of c.in-Seq.items.items _ _ (ap parts_tree c.in-Seq.is) (c.len.ensures ∙ c.in-Seq.items.ok.0)

pub returns-in-Ints : goal.returns-in-Ints
returns-in-Ints g c = shows_of int c.in-Ints.items.items _ _ (ap parts_tree c.in-Ints.is) (c.len-in-Ints.ensures ∙ c.in-Ints.items.ok.0)

pub returns-in-Bools : goal.returns-in-Bools
returns-in-Bools g c = shows_of boolean c.in-Bools.items.items _ _ (ap parts_tree c.in-Bools.is) (c.len-in-Bools.ensures ∙ c.in-Bools.items.ok.0)

pub returns-in-Chars : goal.returns-in-Chars
returns-in-Chars g c = shows_of character c.in-Chars.items.items _ _ (ap parts_tree c.in-Chars.is) (c.len-in-Chars.ensures ∙ c.in-Chars.items.ok.0)
