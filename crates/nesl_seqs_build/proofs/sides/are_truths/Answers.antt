use Rattle.std.proofs.Common.{◌∙◌, refl, ap, sym, is_some}
use Rattle.nesl_values.specs.Tree.{int, boolean, character}
use Rattle.nesl_values.specs.Parts.{as_bool}
use Rattle.nesl_values.specs.View.{tree_of}
use Rattle.nesl_seqs_base.proofs.Shapes.{leaves_read, empty_if_read, all_is_some}
use Rattle.nesl_seqs_build.proofs.sides.are_truths.Goals as goal

pub returns-in-Bools : goal.returns-in-Bools
returns-in-Bools g c = rw c.in-Bools.is (sym (ap is_some (leaves_read as_bool boolean (λ _. refl) c.in-Bools.field-0.now)))

pub returns-in-Ints : goal.returns-in-Ints
returns-in-Ints g c = rw c.in-Ints.is (c.is_empty.ensures ∙ empty_if_read as_bool int (λ _. refl) c.in-Ints.ints.now)

pub returns-in-Chars : goal.returns-in-Chars
returns-in-Chars g c = rw c.in-Chars.is (c.is_empty-in-Chars.ensures ∙ empty_if_read as_bool character (λ _. refl) c.in-Chars.chars.now)

pub returns-in-Values : goal.returns-in-Values
returns-in-Values g c = rw c.in-Values.is (c.are_all_truths.ensures ∙ all_is_some as_bool tree_of c.in-Values.values.now)
