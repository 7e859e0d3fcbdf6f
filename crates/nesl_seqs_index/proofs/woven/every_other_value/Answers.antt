use Rattle.std.proofs.Common.{◌*◌, ◌<◌, ◌∙◌, ap, map, length, arith}
use Rattle.std.proofs.lemmas.List.{length-map, map_push}
use Rattle.nesl_values.specs.View.{tree_of}
use Rattle.nesl_seqs_base.proofs.Weaving.{evens_turn, evens_end, seen_at}
use Rattle.nesl_seqs_index.proofs.woven.every_other_value.Goals as goal

pub loop-place-preserved : goal.loop-place-preserved
loop-place-preserved g c =
    let vs = c.args.values.now in
    let p = c.loop-place.place in
    let within : 2 * p < length vs = omega (arith, c.loop-place-test.true, c.div_ceil-count.ensures) in
    let copy = c.in_ok-share.field-0 in
    evens_turn (map tree_of vs) (map tree_of c.loop-place.taken.items) _ p (tree_of copy) (omega (arith, within, length-map vs tree_of)) (seen_at tree_of vs (2 * p) c.index-values-place.result (tree_of copy) within c.index-values-place.is c.in_ok-share.ensures) (ap (map tree_of) c.in_ok-push.ensures.items ∙ map_push tree_of c.loop-place.taken.items copy) c.loop-place.invariant

pub returns : goal.returns
returns g c =
    let vs = c.args.values.now in
    evens_end (map tree_of vs) (map tree_of c.loop-place.taken.items) c.loop-place.place (omega (arith, c.loop-place-test.false, c.div_ceil-count.ensures, length-map vs tree_of)) c.loop-place.invariant
