use Rattle.std.proofs.Common.{◌≡◌, ◌∙◌, sym, ap, rules, arith, length-set, ◌<◌, length}
use Rattle.nesl_session_meaning.specs.State.{recorded_lines}
use Rattle.nesl_house.specs.declared.slots.Slot.TheVariants.{Home}
use Rattle.nesl_house.specs.Register.{Seat}
use Rattle.nesl_house.specs.Slots.{counted}
use Rattle.nesl_house.proofs.Boards.{few_counted, other_count, small_set, in_place_set}
use Rattle.nesl_house.proofs.slots.Slots.put_back.Goals as goal

pub overflow_add-booked : goal.overflow_add-booked
overflow_add-booked c = let few = few_counted c.args.self.now.slots.items c.args.self.now.places c.args.self.now.small in search rules

pub invariant_of-self-clause-places : goal.invariant_of-self-clause-places
invariant_of-self-clause-places c = length-set c.args.self.now.slots.items c.place.result (Home c.args.seat) ∙ c.args.self.now.places

pub invariant_of-self-clause-in_place : goal.invariant_of-self-clause-in_place
invariant_of-self-clause-in_place c =
    in_place_set c.args.self.now.slots.items c.place.result (Home c.args.seat)
    (λ seat e. let same : c.args.seat ≡ seat = cc in sym (ap (λ (s : Seat). s.place) same) ∙ sym c.place.ensures.place) c.args.self.now.in_place

pub invariant_of-self-clause-counted_all : goal.invariant_of-self-clause-counted_all
invariant_of-self-clause-counted_all c =
    let inside : c.place.result < length c.args.self.now.slots.items = omega (arith, c.place.ensures.in_range, c.args.self.now.places) in
    other_count c.args.self.now.slots.items c.place.result c.args.self.now.booked c.from.result c.from-2.result (Home c.args.seat) c.index_mut-slot.result.now inside c.args.self.now.counted_all
    (c.from.ensures ∙ c.counted-had.ensures ∙ ap counted c.index_mut-slot.ensures.value) (c.from-2.ensures ∙ c.recorded_lines-has.ensures ∙ ap recorded_lines c.session.ensures)

pub invariant_of-self-clause-small : goal.invariant_of-self-clause-small
invariant_of-self-clause-small c =
    let same = c.recorded_lines-has.ensures ∙ ap recorded_lines c.session.ensures in
    small_set c.args.self.now.slots.items c.place.result (Home c.args.seat) (omega (arith, same, c.recorded_lines-has.type_inv)) c.args.self.now.small
