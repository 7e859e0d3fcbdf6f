use Rattle.std.proofs.Common.{◌≡◌, arith, length}
use Rattle.nesl_house.proofs.Boards.{opened_length, opened_places, opened_nothing, opened_few, opened_more}
use Rattle.nesl_house.proofs.slots.Slots.new.Goals as goal

pub push_reserved-requires : goal.push_reserved-requires
push_reserved-requires c =
    let long = opened_length c.args.limits c.loop-place.slots.items c.loop-place.place c.loop-place.invariant.0 in
    omega (arith, long, c.loop-place.invariant.1, c.loop-place-test.true)

pub loop-place-preserved : goal.loop-place-preserved
loop-place-preserved c = (
  opened_more c.args.limits c.loop-place.slots.items c.push_reserved.new.self.items c.in_ok-seat.seat c.loop-place.place c.loop-place.invariant.0 c.in_ok-seat.ensures c.push_reserved.ensures.items,
  omega (arith, c.loop-place.invariant.1, c.push_reserved.ensures.capacity),
)

pub invariant_of-result-clause-places : goal.invariant_of-result-clause-places
invariant_of-result-clause-places c =
    let long = opened_length c.args.limits c.loop-place.slots.items c.loop-place.place c.loop-place.invariant.0 in
    omega (arith, long, c.loop-place-test.false, c.loop-place.auto.place-end)

pub invariant_of-result-clause-in_place : goal.invariant_of-result-clause-in_place
invariant_of-result-clause-in_place c = opened_places c.args.limits c.loop-place.slots.items c.loop-place.place c.loop-place.invariant.0

pub invariant_of-result-clause-counted_all : goal.invariant_of-result-clause-counted_all
invariant_of-result-clause-counted_all c = opened_nothing c.args.limits c.loop-place.slots.items c.loop-place.place c.loop-place.invariant.0

pub invariant_of-result-clause-small : goal.invariant_of-result-clause-small
invariant_of-result-clause-small c = opened_few c.args.limits c.loop-place.slots.items c.loop-place.place c.loop-place.invariant.0
