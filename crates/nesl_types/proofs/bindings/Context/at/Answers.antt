use Rattle.std.proofs.Common.{◌≡◌, Some, None, length, slice_get, refl, sym, ap, ◌∙◌}
use Rattle.std.proofs.lemmas.Option.{slice_get_past, slice_get_read}
use Rattle.nesl_types.proofs.Bound.{rows, row_at, pair_at, no_name_at, no_row_at}
use Rattle.nesl_types.proofs.bindings.Context.at.Goals as goal

pub returns-in_err-name : goal.returns-in_err-name
returns-in_err-name g c =
    rw c.from_residual.ensures
    (no_name_at c.self.inside.names (rows (λ e. e.top) (λ e. e.payload) c.self.inside.entries.items) c.args.place c.in_err-name.ensures
    ∙ ap (λ bs. slice_get bs c.args.place) c.self.view_is)

pub returns-in_err-entry : goal.returns-in_err-entry
returns-in_err-entry g c =
    let es = c.self.inside.entries.items in
    let past : None ≡ slice_get es c.args.place = sym (slice_get_past c.deref.result.now c.args.place c.in_err-entry.ensures.lookup.3) ∙ ap (λ ds. slice_get ds c.args.place) c.deref.ensures.value in
    rw c.from_residual-in_err-entry.ensures
    (no_row_at c.self.inside.names (rows (λ e. e.top) (λ e. e.payload) es) c.args.place (row_at (λ e. e.top) (λ e. e.payload) es c.args.place None past)
    ∙ ap (λ bs. slice_get bs c.args.place) c.self.view_is)

pub returns : goal.returns
returns g c =
    let es = c.self.inside.entries.items in
    let entry = c.in_ok-entry.entry.now in
    let found_there = c.in_ok-entry.ensures.lookup in
    let here : Some entry ≡ slice_get es c.args.place =
    sym (slice_get_read c.deref.result.now (length c.deref.result.now) c.args.place entry refl found_there.3.0 found_there.1) ∙ ap (λ ds. slice_get ds c.args.place) c.deref.ensures.value in
    pair_at c.self.inside.names (rows (λ e. e.top) (λ e. e.payload) es) c.args.place c.in_ok-name.name.now (entry.top, entry.payload) c.in_ok-name.ensures
    (row_at (λ e. e.top) (λ e. e.payload) es c.args.place (Some entry) here)
    ∙ ap (λ bs. slice_get bs c.args.place) c.self.view_is
