use Rattle.std.proofs.Common.{◌∙◌, ap, map, sym}
use Rattle.nesl_values.specs.Tree.{int, boolean, character}
use Rattle.nesl_values.specs.View.{tree_of, parts_tree}
use Rattle.nesl_values.proofs.Sequences.{elements_of}
use Rattle.nesl_values.proofs.items.parts_items.Goals as goal

pub returns-in-Ints-clause-items : goal.returns-in-Ints-clause-items
returns-in-Ints-clause-items g c = ap (map int) c.deref.ensures.value ∙ sym (elements_of int c.in-Ints.ints.items _ (ap parts_tree c.in-Ints.is))

pub returns-in-Bools-clause-items : goal.returns-in-Bools-clause-items
returns-in-Bools-clause-items g c = ap (map boolean) c.deref-in-Bools.ensures.value ∙ sym (elements_of boolean c.in-Bools.bools.items _ (ap parts_tree c.in-Bools.is))

pub returns-in-Chars-clause-items : goal.returns-in-Chars-clause-items
returns-in-Chars-clause-items g c = ap (map character) c.deref-in-Chars.ensures.value ∙ sym (elements_of character c.in-Chars.chars.items _ (ap parts_tree c.in-Chars.is))

pub returns-in-Seq-clause-items : goal.returns-in-Seq-clause-items
returns-in-Seq-clause-items g c = ap (map tree_of) c.deref-in-Seq.ensures.value ∙ sym (elements_of tree_of c.in-Seq.values.items _ (ap parts_tree c.in-Seq.is))
