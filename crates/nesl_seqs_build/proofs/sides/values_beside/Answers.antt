use Rattle.std.proofs.Common.{◌<◌, ◌++◌, ◌+◌, length, map, drop, ap, ◌∙◌, arith}
use Rattle.std.proofs.lemmas.List.{length-map, map_push}
use Rattle.nesl_values.specs.View.{tree_of}
use Rattle.nesl_seqs_base.specs.Sides.{marked}
use Rattle.nesl_seqs_base.proofs.Weaving.{seen_at}
use Rattle.nesl_seqs_build.proofs.Splitting.{kept_turn, passed_turn, beside_end}
use Rattle.nesl_seqs_build.proofs.sides.values_beside.Goals as goal
use Rattle.nesl_seqs_build.proofs.sides.values_beside.Goals.{then-flags-place+in_ok-share+in_ok-push, else-flags-place}

pub loop-place-preserved : goal.loop-place-preserved
loop-place-preserved g c =
    let b = c.args.wanted in
    let vs = c.args.values.now in
    let ts = map tree_of vs in
    let cs = c.args.flags.now in
    let i = c.loop-place.place in
    let first : i < length vs = omega (arith, c.loop-place-test.true, c.min-place-end.ensures) in
    let all : i < length ts = omega (arith, first, length-map vs tree_of) in
    let second : i < length cs = omega (arith, c.loop-place-test.true, c.min-place-end.ensures) in
    let rest = marked b (drop (i + 1) ts) (drop (i + 1) cs) in
    elim c.if-flags-place.branch [
      | then-flags-place+in_ok-share+in_ok-push w ↦ (
          let copy = w.in_ok-share.field-0 in
          ap (λ v. map tree_of v.items ++ rest) w.kept-is ∙ kept_turn b ts (map tree_of c.loop-place.kept.items) _ _ cs i (tree_of copy) all second (seen_at tree_of vs i w.index-values-place.result (tree_of copy) first w.index-values-place.is w.in_ok-share.ensures) w.if-flags-place.true (ap (map tree_of) w.in_ok-push.ensures.items ∙ map_push tree_of c.loop-place.kept.items copy) c.loop-place.invariant)
      | else-flags-place w ↦ ap (λ v. map tree_of v.items ++ rest) w.kept-is ∙ passed_turn b ts (map tree_of c.loop-place.kept.items) _ cs i all second w.if-flags-place.false c.loop-place.invariant
    ]

pub returns : goal.returns
returns g c =
    let vs = c.args.values.now in
    beside_end c.args.wanted (map tree_of vs) (map tree_of c.loop-place.kept.items) _ c.args.flags.now c.loop-place.place (omega (arith, c.loop-place-test.false, c.min-place-end.ensures, length-map vs tree_of)) c.loop-place.invariant
