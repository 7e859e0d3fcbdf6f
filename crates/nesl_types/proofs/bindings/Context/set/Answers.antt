use Rattle.std.proofs.Common.{◌≡◌, ◌≤◌, length, map, slice_index, sym, ap, ◌∙◌, subst}
use Rattle.nesl_types.specs.Names.{datatype_place, is_datatype, AreReached}
use Rattle.nesl_types.proofs.Places.{reached_after}
use Rattle.nesl_types.proofs.bindings.Context.set.Goals as goal

pub note_place-requires-clause-others : goal.note_place-requires-clause-others
note_place-requires-clause-others g c =
    let ns = c.self.inside.names in
    let es = c.reserve_entry.new.entries.items in
    let new = c.put_entry-put.new.entries.items in
    let places = c.reserve_entry.new.places.items in
    let same : es ≡ c.self.inside.entries.items = c.reserve_entry.ensures.entries in
    let l : length ns ≡ length es = c.self.invariant.0 ∙ ap length (sym same) in
    let reached : AreReached (map (λ e. e.top) es) places =
    subst (λ ps. AreReached (map (λ e. e.top) es) ps) (sym c.reserve_entry.ensures.places)
    (subst (λ ds. AreReached (map (λ e. e.top) ds) c.self.inside.places.items) (sym same) c.self.invariant.1) in
    λ other h.
    subst (λ ds. slice_index places other ≤ datatype_place (map (λ e. e.top) ds) other) (sym c.as_slice.ensures.value)
    (reached_after (λ e. e.top) (λ e. e.payload) ns c.put_entry-put.new.names es new places c.in_ok-top.top c.args.payload l c.in-Ok.ensures.len reached
    c.args.name.now c.in-Ok.ensures.set other (ap (is_datatype other) c.in_ok-top.ensures ∙ c.tag_of-tag.ensures other h))
