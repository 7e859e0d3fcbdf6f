use Rattle.std.proofs.Common.{refl, sym, length}
use Rattle.std.proofs.lemmas.Option.{slice_get_past, slice_get_read}
use Rattle.nesl_eval_top_level.proofs.Storing.{slot_of_no_name, slot_of_no_code, slot_there}
use Rattle.nesl_eval_nodes.specs.Holds.{held_slot}
use Rattle.nesl_eval_top_level.proofs.env.TopLevel.held.Goals as goal

pub returns-in_default : goal.returns-in_default
returns-in_default c = slot_of_no_name c.args.self.now.context.now c.args.self.now.prepared.now c.args.place c.in_default.ensures

pub returns-in_default-get : goal.returns-in_default-get
returns-in_default-get c =
    let cs = c.args.self.now.prepared.now in
    slot_of_no_code c.args.self.now.context.now cs c.args.place (sym (slice_get_past cs c.args.place c.in_default-get.ensures.lookup.3))

pub returns : goal.returns
returns c =
    let cs = c.args.self.now.prepared.now in
    let code = c.in-Some-get.code.now in
    let there = c.in-Some-get.ensures.lookup in
    slot_there c.args.self.now.context.now cs c.args.place (c.in-Some.field-0-0.now, c.in-Some.top.now, c.in-Some.payload.now) code
    (held_slot c.held_with.result) c.in-Some.ensures (sym (slice_get_read cs (length cs) c.args.place code refl there.3.0 there.1)) c.held_with.ensures
