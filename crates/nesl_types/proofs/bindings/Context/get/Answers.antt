use Rattle.std.proofs.Common.{◌≡◌, Some, None, length, slice_get, refl, sym, ap, ◌∙◌}
use Rattle.std.proofs.lemmas.Option.{slice_get_past, slice_get_read}
use Rattle.nesl_types.specs.Names.{found}
use Rattle.nesl_types.proofs.Bound.{rows, row_at, same_length, found_at, not_found}
use Rattle.nesl_types.proofs.bindings.Context.get.Goals as goal

pub returns-in_err-place : goal.returns-in_err-place
returns-in_err-place g c =
    rw c.from_residual.ensures
    (not_found c.args.name.now c.self.inside.names (rows (λ e. e.top) (λ e. e.payload) c.self.inside.entries.items) c.in_err-place.ensures
    ∙ ap (found c.args.name.now) c.self.view_is)

pub returns-in_err-entry : goal.returns-in_err-entry
returns-in_err-entry g c =
    let ns = c.self.inside.names in
    let es = c.self.inside.entries.items in
    let place = c.in_ok-place.place in
    let past : None ≡ slice_get es place = sym (slice_get_past c.deref.result.now place c.in_err-entry.ensures.lookup.3) ∙ ap (λ ds. slice_get ds place) c.deref.ensures.value in
    rw c.from_residual-in_err-entry.ensures
    (row_at (λ e. e.top) (λ e. e.payload) es place None past
    ∙ found_at c.args.name.now ns (rows (λ e. e.top) (λ e. e.payload) es) place (same_length (λ e. e.top) (λ e. e.payload) ns es c.self.invariant.0) c.in_ok-place.ensures
    ∙ ap (found c.args.name.now) c.self.view_is)

pub returns : goal.returns
returns g c =
    let ns = c.self.inside.names in
    let es = c.self.inside.entries.items in
    let place = c.in_ok-place.place in
    let found_there = c.in_ok-entry.ensures.lookup in
    let here : Some c.in_ok-entry.entry.now ≡ slice_get es place =
    sym (slice_get_read c.deref.result.now (length c.deref.result.now) place c.in_ok-entry.entry.now refl found_there.3.0 found_there.1) ∙ ap (λ ds. slice_get ds place) c.deref.ensures.value in
    row_at (λ e. e.top) (λ e. e.payload) es place (Some c.in_ok-entry.entry.now) here
    ∙ found_at c.args.name.now ns (rows (λ e. e.top) (λ e. e.payload) es) place (same_length (λ e. e.top) (λ e. e.payload) ns es c.self.invariant.0) c.in_ok-place.ensures
    ∙ ap (found c.args.name.now) c.self.view_is
