use Rattle.std.proofs.Common.{arith}
use Rattle.nesl_seqs_base.proofs.Weaving.{evens_turn, evens_end}
use Rattle.nesl_seqs_index.proofs.woven.every_other.Goals as goal

pub loop-place-preserved : goal.loop-place-preserved
loop-place-preserved g c =
    evens_turn c.args.items.now c.loop-place.taken.items _ c.loop-place.place c.index-items-place.result (omega (arith, c.loop-place-test.true, c.div_ceil-count.ensures)) c.index-items-place.is c.in_ok-push.ensures.items c.loop-place.invariant

pub returns : goal.returns
returns g c =
    evens_end c.args.items.now c.loop-place.taken.items c.loop-place.place (omega (arith, c.loop-place-test.false, c.div_ceil-count.ensures)) c.loop-place.invariant
