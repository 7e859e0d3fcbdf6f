use Rattle.std.proofs.Common.{◌∙◌, ap, map}
use Rattle.nesl_values.specs.Tree.{int, boolean, character}
use Rattle.nesl_seqs_base.proofs.Made.{made}
use Rattle.nesl_seqs_base.proofs.Weaving.{map_woven}
use Rattle.nesl_seqs_index.proofs.woven.woven_copy.Goals as goal

pub returns-in_ok-woven-in-Ints-Ints : goal.returns-in_ok-woven-in-Ints-Ints
returns-in_ok-woven-in-Ints-Ints g c =
    let both = c.in-Ints-Ints in
    rw (both.is-0, both.is-1) (made _ _ _ c.ints.ensures (ap (map int) c.in_ok-woven-in-Ints-Ints.ensures ∙ map_woven int both.one.now both.other.now))

pub returns-in_ok-woven-in-Bools-Bools : goal.returns-in_ok-woven-in-Bools-Bools
returns-in_ok-woven-in-Bools-Bools g c =
    let both = c.in-Bools-Bools in
    rw (both.is-0, both.is-1) (made _ _ _ c.bools.ensures (ap (map boolean) c.in_ok-woven-in-Bools-Bools.ensures ∙ map_woven boolean both.one.now both.other.now))

pub returns-in_ok-woven-in-Chars-Chars : goal.returns-in_ok-woven-in-Chars-Chars
returns-in_ok-woven-in-Chars-Chars g c =
    let both = c.in-Chars-Chars in
    rw (both.is-0, both.is-1) (made _ _ _ c.chars.ensures (ap (map character) c.in_ok-woven-in-Chars-Chars.ensures ∙ map_woven character both.one.now both.other.now))
