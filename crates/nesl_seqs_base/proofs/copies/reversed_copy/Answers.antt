use Rattle.std.proofs.Common.{refl}
use Rattle.nesl_values.specs.Tree.{int, boolean, character}
use Rattle.nesl_seqs_base.proofs.Made.{made, mapped_reverse}
use Rattle.nesl_seqs_base.proofs.copies.reversed_copy.Goals as goal

pub returns-in_ok-reversed-in-Ints : goal.returns-in_ok-reversed-in-Ints
returns-in_ok-reversed-in-Ints g c =
    rw c.in-Ints.is (made _ _ _ c.ints.ensures (mapped_reverse int _ c.in-Ints.ints.now _ c.in_ok-reversed-in-Ints.ensures refl))

pub returns-in_ok-reversed-in-Bools : goal.returns-in_ok-reversed-in-Bools
returns-in_ok-reversed-in-Bools g c =
    rw c.in-Bools.is (made _ _ _ c.bools.ensures (mapped_reverse boolean _ c.in-Bools.bools.now _ c.in_ok-reversed-in-Bools.ensures refl))

pub returns-in_ok-reversed-in-Chars : goal.returns-in_ok-reversed-in-Chars
returns-in_ok-reversed-in-Chars g c =
    rw c.in-Chars.is (made _ _ _ c.chars.ensures (mapped_reverse character _ c.in-Chars.chars.now _ c.in_ok-reversed-in-Chars.ensures refl))

pub returns-in_ok-reversed_values-in-Values : goal.returns-in_ok-reversed_values-in-Values
returns-in_ok-reversed_values-in-Values g c =
    rw c.in-Values.is (made _ _ _ c.sequence.ensures c.in_ok-reversed_values-in-Values.ensures)
