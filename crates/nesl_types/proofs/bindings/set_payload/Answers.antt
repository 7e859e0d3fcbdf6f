use Rattle.std.proofs.Common.{◌≡◌, Some, None, length, slice_get, refl, sym}
use Rattle.std.proofs.lemmas.Option.{slice_get_past, slice_get_read}
use Rattle.nesl_types.proofs.Bound.{set_same, set_past}
use Rattle.nesl_types.proofs.bindings.set_payload.Goals as goal

pub returns-in-Some-clause-set : goal.returns-in-Some-clause-set
returns-in-Some-clause-set g c = λ names top h.
    let entry = c.in-Some.entry.now in
    let here : Some entry ≡ slice_get c.args.entries.now.items c.args.place = sym (slice_get_read c.args.entries.now.items (length c.args.entries.now.items) c.args.place entry refl c.in-Some.ensures.item.3.0 c.in-Some.ensures.item.1) in
    set_same (λ e. e.top) (λ e. e.payload) names c.args.entries.now.items c.args.place entry (record { top = entry.top; payload = c.args.payload; marks = entry.marks }) top
    here refl h

pub returns-in_default-clause-set : goal.returns-in_default-clause-set
returns-in_default-clause-set g c = λ names top h.
    let past : None ≡ slice_get c.args.entries.now.items c.args.place = sym (slice_get_past c.args.entries.now.items c.args.place c.in_default.ensures.item.3) in
    set_past (λ e. e.top) (λ e. e.payload) names c.args.entries.now.items c.args.place top c.args.payload past
