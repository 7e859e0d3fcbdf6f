use Rattle.std.proofs.Common.{sym, refl, false}
use Rattle.nesl_values.specs.Tree.{int, boolean, character}
use Rattle.nesl_values.specs.Parts.{as_bool}
use Rattle.nesl_values.specs.View.{tree_of}
use Rattle.nesl_seqs_base.proofs.Shapes.{leaves_read}
use Rattle.nesl_seqs.specs.Elements.{truths_of}
use Rattle.nesl_seqs.proofs.FoldPlanned.{none_read, loose_read}
use Rattle.nesl_seqs.proofs.fold.elements.Truths.read.Goals as goal

pub returns-in-Bools : goal.returns-in-Bools
returns-in-Bools g c = rw c.in-Bools.is (sym (leaves_read as_bool boolean (λ z. refl) c.in-Bools.bools.now))

pub returns-in-Ints : goal.returns-in-Ints
returns-in-Ints g c =
    rw c.in-Ints.is (rw c.then_some.ensures (none_read truths_of _ c.is_empty.result as_bool int c.in-Ints.ints.now (λ z. refl) refl c.is_empty.ensures))

pub returns-in-Chars : goal.returns-in-Chars
returns-in-Chars g c =
    rw c.in-Chars.is (rw c.then_some-in-Chars.ensures (none_read truths_of _ c.is_empty-in-Chars.result as_bool character c.in-Chars.chars.now (λ b. refl) refl c.is_empty-in-Chars.ensures))

pub returns-in-Values : goal.returns-in-Values
returns-in-Values g c =
    rw c.in-Values.is (rw c.then_some-in-Values.ensures (loose_read truths_of _ c.are_truths.result as_bool tree_of false c.in-Values.values.now c.are_truths.ensures refl))
