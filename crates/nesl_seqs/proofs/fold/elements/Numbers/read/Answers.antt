use Rattle.std.proofs.Common.{sym, refl, pos}
use Rattle.nesl_values.specs.Tree.{int, boolean, character}
use Rattle.nesl_values.specs.Parts.{as_int}
use Rattle.nesl_values.specs.View.{tree_of}
use Rattle.nesl_seqs_base.proofs.Shapes.{leaves_read}
use Rattle.nesl_seqs.specs.Elements.{numbers_of}
use Rattle.nesl_seqs.proofs.FoldPlanned.{none_read, loose_read}
use Rattle.nesl_seqs.proofs.fold.elements.Numbers.read.Goals as goal

pub returns-in-Ints : goal.returns-in-Ints
returns-in-Ints g c = rw c.in-Ints.is (sym (leaves_read as_int int (λ z. refl) c.in-Ints.ints.now))

pub returns-in-Bools : goal.returns-in-Bools
returns-in-Bools g c =
    rw c.in-Bools.is (rw c.then_some.ensures (none_read numbers_of _ c.is_empty.result as_int boolean c.in-Bools.bools.now (λ b. refl) refl c.is_empty.ensures))

pub returns-in-Chars : goal.returns-in-Chars
returns-in-Chars g c =
    rw c.in-Chars.is (rw c.then_some-in-Chars.ensures (none_read numbers_of _ c.is_empty-in-Chars.result as_int character c.in-Chars.chars.now (λ b. refl) refl c.is_empty-in-Chars.ensures))

pub returns-in-Values : goal.returns-in-Values
returns-in-Values g c =
    rw c.in-Values.is (rw c.then_some-in-Values.ensures (loose_read numbers_of _ c.are_numbers.result as_int tree_of (pos 0) c.in-Values.values.now c.are_numbers.ensures refl))
