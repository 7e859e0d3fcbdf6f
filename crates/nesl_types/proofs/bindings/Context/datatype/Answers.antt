use Rattle.std.proofs.Common.{slice_get, map, sym, ap, ◌∙◌}
use Rattle.nesl_types.specs.Names.{datatype_place}
use Rattle.nesl_types.proofs.Bound.{tops_alone}
use Rattle.nesl_types.proofs.Places.{at_place, tops_of}
use Rattle.nesl_types.proofs.bindings.Context.datatype.Goals as goal

pub returns : goal.returns
returns g c =
    let tops = ap (map (λ e. e.top)) c.as_slice.ensures.value ∙ sym (tops_alone (λ e. e.top) (λ e. e.payload) c.self.inside.names c.self.inside.entries.items c.self.invariant.0) ∙ ap tops_of c.self.view_is in
    c.at.ensures ∙ ap (slice_get c.args.self.now) (c.datatype_place-place.ensures ∙ ap (λ ts. datatype_place ts c.args.tag) tops) ∙ at_place c.args.self.now c.args.tag
