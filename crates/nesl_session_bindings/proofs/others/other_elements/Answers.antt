use Rattle.std.proofs.Common.{◌≡◌, ◌+◌, ◌<◌, ◌∙◌, sym, arith}
use Rattle.nesl_session_bindings.specs.Meanings.{elements_in}
use Rattle.nesl_session_bindings.specs.Stored.{meaning_of}
use Rattle.nesl_session_bindings.proofs.Counts.{beside_found, beside_none}
use Rattle.nesl_session_bindings.proofs.Entries.{found-fits}
use Rattle.nesl_session_bindings.proofs.others.other_elements.Goals as goal

pub room_left-requires : goal.room_left-requires
room_left-requires c =
    found-fits c.args.name.now c.args.env.now c.requires.fit c.in-Some.top.now c.in-Some.payload.now c.in-Some.ensures

pub unreachable-requires : goal.unreachable-requires
unreachable-requires c =
    let more : c.args.elements < elements_in (meaning_of c.in-Some.top.now c.in-Some.payload.now) = c.in-None-room_left.ensures in
    let all = beside_found c.args.name.now c.in-Some.top.now c.in-Some.payload.now c.args.env.now c.in-Some.ensures in
    omega (arith, more, all, c.requires.counted)

pub returns-in-None : goal.returns-in-None
returns-in-None c = sym c.requires.counted ∙ sym (beside_none c.args.name.now c.args.env.now c.in-None.ensures)

pub returns-in-Some-room_left : goal.returns-in-Some-room_left
returns-in-Some-room_left c =
    let here : c.in-Some-room_left.left + elements_in (meaning_of c.in-Some.top.now c.in-Some.payload.now) ≡ c.args.elements = c.in-Some-room_left.ensures in
    let all = beside_found c.args.name.now c.in-Some.top.now c.in-Some.payload.now c.args.env.now c.in-Some.ensures in
    omega (arith, here, all, c.requires.counted)
