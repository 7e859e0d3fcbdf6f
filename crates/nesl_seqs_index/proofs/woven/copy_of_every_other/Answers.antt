use Rattle.std.proofs.Common.{◌∙◌, ap, map}
use Rattle.nesl_values.specs.Tree.{int, boolean, character}
use Rattle.nesl_seqs_base.proofs.Made.{made}
use Rattle.nesl_seqs_base.proofs.Weaving.{map_evens}
use Rattle.nesl_seqs_index.proofs.woven.copy_of_every_other.Goals as goal

pub returns-in_ok-every_other-in-Ints : goal.returns-in_ok-every_other-in-Ints
returns-in_ok-every_other-in-Ints g c =
    rw c.in-Ints.is (made _ _ _ c.ints.ensures (ap (map int) c.in_ok-every_other-in-Ints.ensures ∙ map_evens int c.in-Ints.ints.now))

pub returns-in_ok-every_other-in-Bools : goal.returns-in_ok-every_other-in-Bools
returns-in_ok-every_other-in-Bools g c =
    rw c.in-Bools.is (made _ _ _ c.bools.ensures (ap (map boolean) c.in_ok-every_other-in-Bools.ensures ∙ map_evens boolean c.in-Bools.bools.now))

pub returns-in_ok-every_other-in-Chars : goal.returns-in_ok-every_other-in-Chars
returns-in_ok-every_other-in-Chars g c =
    rw c.in-Chars.is (made _ _ _ c.chars.ensures (ap (map character) c.in_ok-every_other-in-Chars.ensures ∙ map_evens character c.in-Chars.chars.now))

pub returns-in_ok-every_other_value-in-Values : goal.returns-in_ok-every_other_value-in-Values
returns-in_ok-every_other_value-in-Values g c = rw c.in-Values.is (made _ _ _ c.sequence.ensures c.in_ok-every_other_value-in-Values.ensures)
