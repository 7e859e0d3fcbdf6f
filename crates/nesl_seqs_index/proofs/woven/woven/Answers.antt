use Rattle.std.proofs.Common.{length, refl, slice_range, arith}
use Rattle.nesl_seqs_base.proofs.Weaving.{woven_turn, woven_rest}
use Rattle.nesl_seqs_index.proofs.woven.woven.Goals as goal

pub returns : goal.returns
returns g c =
    woven_rest c.args.one.now c.args.other.now c.loop-place.made.items _ (slice_range c.args.one.now (length c.args.other.now) (length c.args.one.now)) c.loop-place.place (length c.args.other.now) (length c.args.one.now) (omega arith) (omega arith) refl refl c.in_ok-extend_from_slice.ensures.items c.loop-place.invariant

pub loop-place-preserved : goal.loop-place-preserved
loop-place-preserved g c =
    woven_turn c.args.one.now c.args.other.now c.loop-place.made.items _ _ c.loop-place.place c.index-one-place.result c.index-other-place.result (omega (arith, c.loop-place-test.true, c.requires)) c.loop-place-test.true c.index-one-place.is c.index-other-place.is c.in_ok-push.ensures.items c.in_ok-push-2.ensures.items c.loop-place.invariant
