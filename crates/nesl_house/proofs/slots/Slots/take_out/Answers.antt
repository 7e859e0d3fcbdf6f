use Rattle.std.proofs.Common.{◌≡◌, ◌∙◌, sym, ap, Some, arith, length-set, ◌<◌, length}
use Rattle.std.proofs.lemmas.Option.{slice_get-get_or}
use Rattle.nesl_session_meaning.specs.State.{recorded_lines}
use Rattle.nesl_house.specs.declared.slots.Slot.TheVariants.{Home, Away}
use Rattle.nesl_house.specs.Slots.{counted}
use Rattle.nesl_house.proofs.Boards.{same_count, small_set, in_place_set}
use Rattle.nesl_house.proofs.slots.Slots.take_out.Goals as goal

pub invariant_of-self-in-Home-clause-places : goal.invariant_of-self-in-Home-clause-places
invariant_of-self-in-Home-clause-places c = length-set c.args.self.now.slots.items c.args.place c.replace.new.dest ∙ c.args.self.now.places

pub invariant_of-self-in-Home-clause-in_place : goal.invariant_of-self-in-Home-clause-in_place
invariant_of-self-in-Home-clause-in_place c =
    in_place_set c.args.self.now.slots.items c.args.place c.replace.new.dest (λ seat e. let no' : Away c.recorded_lines.result ≡ Home seat = sym c.replace.ensures.after ∙ e in absurd (cc)) c.args.self.now.in_place

pub invariant_of-self-in-Home-clause-counted_all : goal.invariant_of-self-in-Home-clause-counted_all
invariant_of-self-in-Home-clause-counted_all c =
    let inside : c.args.place < length c.args.self.now.slots.items = omega (arith, c.requires, c.args.self.now.places) in
    let same : counted c.replace.new.dest ≡ counted c.index_mut-slot.result.now = ap counted c.replace.ensures.after ∙ c.recorded_lines.ensures ∙ ap recorded_lines c.session.ensures ∙ sym (ap counted c.in-Home.is) in
    same_count c.args.self.now.slots.items c.args.place c.args.self.now.booked c.replace.new.dest c.index_mut-slot.result.now inside c.args.self.now.counted_all (same ∙ ap counted c.index_mut-slot.ensures.value)

pub invariant_of-self-in-Home-clause-small : goal.invariant_of-self-in-Home-clause-small
invariant_of-self-in-Home-clause-small c =
    let same : counted c.replace.new.dest ≡ c.recorded_lines.result = ap counted c.replace.ensures.after in
    small_set c.args.self.now.slots.items c.args.place c.replace.new.dest (omega (arith, same, c.recorded_lines.type_inv)) c.args.self.now.small

pub returns-in-Away-clause-away : goal.returns-in-Away-clause-away
returns-in-Away-clause-away c =
    let inside : c.args.place < length c.args.self.now.slots.items = omega (arith, c.requires, c.args.self.now.places) in
    (c.in-Away.field-0, slice_get-get_or c.args.self.now.slots.items c.args.place c.index_mut-slot.result.now inside ∙ ap (λ x. Some x) (sym c.index_mut-slot.ensures.value ∙ c.in-Away.is))

pub returns-in-Home-replace-clause-home : goal.returns-in-Home-replace-clause-home
returns-in-Home-replace-clause-home c =
    let inside : c.args.place < length c.args.self.now.slots.items = omega (arith, c.requires, c.args.self.now.places) in
    slice_get-get_or c.args.self.now.slots.items c.args.place c.index_mut-slot.result.now inside ∙ ap (λ x. Some x) (sym c.index_mut-slot.ensures.value ∙ c.in-Home.is ∙ sym c.replace.ensures.value ∙ c.in-Home-replace.is)
