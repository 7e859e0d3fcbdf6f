use Rattle.std.proofs.Common.{◌*◌, ◌<◌, length, map, refl, arith}
use Rattle.std.proofs.lemmas.List.{length-map}
use Rattle.nesl_values.specs.View.{tree_of}
use Rattle.nesl_seqs_base.proofs.Weaving.{sizes_next, seen_at}
use Rattle.nesl_seqs_index.proofs.woven.nodes_of_every_other_value.Goals as goal

pub returns-in_err-used : goal.returns-in_err-used
returns-in_err-used g c =
    let vs = c.args.values.now in
    let p = c.loop-place.place in
    let v = c.index-values-place.result in
    let within : 2 * p < length vs = omega (arith, c.loop-place-test.true, c.div_ceil-place-end.ensures) in
    let here = sizes_next (map tree_of vs) p (tree_of v) (omega (arith, within, length-map vs tree_of)) (seen_at tree_of vs (2 * p) v (tree_of v) within c.index-values-place.is refl) in
    rw c.from_residual.ensures (λ h. c.in_err-used.ensures (omega (arith, h, here, c.loop-place.invariant.0)))

pub loop-place-preserved : goal.loop-place-preserved
loop-place-preserved g c =
    let vs = c.args.values.now in
    let p = c.loop-place.place in
    let v = c.index-values-place.result in
    let within : 2 * p < length vs = omega (arith, c.loop-place-test.true, c.div_ceil-place-end.ensures) in
    let here = sizes_next (map tree_of vs) p (tree_of v) (omega (arith, within, length-map vs tree_of)) (seen_at tree_of vs (2 * p) v (tree_of v) within c.index-values-place.is refl) in
    (omega (arith, here, c.loop-place.invariant.0, c.in_ok-used.ensures), omega (arith, c.loop-place.invariant.1, c.in_ok-used.ensures))
