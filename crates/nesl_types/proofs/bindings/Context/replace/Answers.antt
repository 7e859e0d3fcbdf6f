use Rattle.std.proofs.Common.{◌≡◌, ◌≤◌, Some, length, map, slice_get, slice_index, refl, sym, ap, ◌∙◌, subst}
use Rattle.std.specs.Option.{option_map}
use Rattle.nesl_types.specs.Names.{with_name_at, datatype_place, is_datatype}
use Rattle.nesl_types.proofs.Places.{reached_after_at}
use Rattle.nesl_types.proofs.bindings.Context.replace.Goals as goal

pub invariant_of-self : goal.invariant_of-self
invariant_of-self g c =
    let ns = c.self.inside.names in
    let es = c.self.inside.entries.items in
    let new = c.set_payload.new.entries.items in
    let l : length ns ≡ length new = c.self.invariant.0 ∙ sym c.set_payload.ensures.len in
    let there : option_map (λ e. e.top) (slice_get es c.args.place) ≡ Some c.args.top =
    ap (λ ds. option_map (λ e. e.top) (slice_get ds c.args.place)) (sym c.as_slice.ensures.value) ∙ c.if-is_variable_at.ensures.same refl in (
      l,
      λ tag.
          reached_after_at (λ e. e.top) (λ e. e.payload) ns ns es new c.self.inside.places.items c.args.top c.args.payload c.self.invariant.0 l c.self.invariant.1
          c.args.place (c.set_payload.ensures.set ns c.args.top there) tag (c.if-is_variable_at.ensures.kind refl tag),
    )

pub returns-then-is_variable_at-clause-ok : goal.returns-then-is_variable_at-clause-ok
returns-then-is_variable_at-clause-ok g c =
    let there : option_map (λ e. e.top) (slice_get c.self.inside.entries.items c.args.place) ≡ Some c.args.top =
    ap (λ ds. option_map (λ e. e.top) (slice_get ds c.args.place)) (sym c.as_slice.ensures.value) ∙ c.if-is_variable_at.ensures.same refl in
    c.set_payload.ensures.set c.self.inside.names c.args.top there ∙ ap (with_name_at c.args.place c.args.top c.args.payload) c.self.view_is

pub note_place-requires-clause-others : goal.note_place-requires-clause-others
note_place-requires-clause-others g c =
    let ns = c.self.inside.names in
    let es = c.self.inside.entries.items in
    let new = c.set_entry-before.new.entries.items in
    let l : length ns ≡ length new = c.self.invariant.0 ∙ sym c.set_entry-before.ensures.len in
    λ other h.
    subst (λ ps. slice_index ps other ≤ datatype_place (map (λ e. e.top) c.as_slice-2.result.now) other) (sym c.reserve_types.ensures.places)
    (subst (λ ds. slice_index c.self.inside.places.items other ≤ datatype_place (map (λ e. e.top) ds) other) (sym c.as_slice-2.ensures.value)
    (reached_after_at (λ e. e.top) (λ e. e.payload) ns ns es new c.self.inside.places.items c.in_ok-top.top c.args.payload c.self.invariant.0 l c.self.invariant.1
    c.args.place (c.set_entry-before.ensures.set ns) other (ap (is_datatype other) c.in_ok-top.ensures ∙ c.tag_of-tag.ensures other h)))
