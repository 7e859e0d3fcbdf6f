use Rattle.std.proofs.Common.{◌∙◌, ap, map}
use Rattle.nesl_values.specs.Tree.{int, boolean, character}
use Rattle.nesl_seqs_base.proofs.Made.{made}
use Rattle.nesl_seqs_build.proofs.Splitting.{map_beside}
use Rattle.nesl_seqs_build.proofs.sides.items_beside.Goals as goal

pub returns-in_ok-beside-in-Ints : goal.returns-in_ok-beside-in-Ints
returns-in_ok-beside-in-Ints g c =
    rw c.in-Ints.is (made _ _ _ c.ints.ensures (ap (map int) c.in_ok-beside-in-Ints.ensures ∙ map_beside int c.args.wanted c.in-Ints.ints.now c.args.flags.now))

pub returns-in_ok-beside-in-Bools : goal.returns-in_ok-beside-in-Bools
returns-in_ok-beside-in-Bools g c =
    rw c.in-Bools.is (made _ _ _ c.bools.ensures (ap (map boolean) c.in_ok-beside-in-Bools.ensures ∙ map_beside boolean c.args.wanted c.in-Bools.bools.now c.args.flags.now))

pub returns-in_ok-beside-in-Chars : goal.returns-in_ok-beside-in-Chars
returns-in_ok-beside-in-Chars g c =
    rw c.in-Chars.is (made _ _ _ c.chars.ensures (ap (map character) c.in_ok-beside-in-Chars.ensures ∙ map_beside character c.args.wanted c.in-Chars.chars.now c.args.flags.now))

pub returns-in_ok-values_beside-in-Values : goal.returns-in_ok-values_beside-in-Values
returns-in_ok-values_beside-in-Values g c = rw c.in-Values.is (made _ _ _ c.sequence.ensures c.in_ok-values_beside-in-Values.ensures)
