use Rattle.std.proofs.Common.{◌≡◌, None, slice_get, sym}
use Rattle.std.proofs.lemmas.Option.{slice_get_past}
use Rattle.nesl_types.proofs.Bound.{set_at, set_past}
use Rattle.nesl_types.proofs.bindings.set_entry.Goals as goal

pub returns-in-Some-clause-set : goal.returns-in-Some-clause-set
returns-in-Some-clause-set g c = λ names. set_at (λ e. e.top) (λ e. e.payload) names c.args.entries.now.items c.args.place c.args.entry

pub returns-in-None-clause-set : goal.returns-in-None-clause-set
returns-in-None-clause-set g c = λ names.
    let past : None ≡ slice_get c.args.entries.now.items c.args.place = sym (slice_get_past c.args.entries.now.items c.args.place c.in-None.ensures.item.3) in
    set_past (λ e. e.top) (λ e. e.payload) names c.args.entries.now.items c.args.place c.args.entry.top c.args.entry.payload past
