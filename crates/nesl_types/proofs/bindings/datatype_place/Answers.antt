use Rattle.std.proofs.Common.{◌≡◌, ◌≤◌, length, map, sym, ◌∙◌, arith}
use Rattle.std.proofs.lemmas.List.{length-map}
use Rattle.nesl_types.specs.Names.{datatype_place}
use Rattle.nesl_types.proofs.Places.{found_place, no_place, none_before, place_within}
use Rattle.nesl_types.proofs.bindings.datatype_place.Goals as goal

pub returns-then-is_datatype_at : goal.returns-then-is_datatype_at
returns-then-is_datatype_at g c = found_place _ c.args.tag c.loop-place.place c.loop-place.invariant (sym c.is_datatype_at.ensures ∙ c.if-is_datatype_at.true)

pub loop-place-init : goal.loop-place-init
loop-place-init g c =
    let ts = map (λ e. e.top) c.args.entries.now in
    let within : c.args.from ≤ datatype_place ts c.args.tag = c.requires in
    λ k l. none_before ts c.args.tag k (omega (arith, within, l))

pub returns : goal.returns
returns g c =
    let es = c.args.entries.now in
    let ts = map (λ e. e.top) es in
    let l : length ts ≡ length es = length-map es (λ e. e.top) in
    let within : c.args.from ≤ datatype_place ts c.args.tag = c.requires in
    let from : c.args.from ≤ length es = omega (arith, within, place_within ts c.args.tag, l) in
    sym l ∙ no_place ts c.args.tag c.loop-place.place c.loop-place.invariant (omega (arith, from, l, c.loop-place-test.false))
