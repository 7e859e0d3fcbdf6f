use Rattle.std.proofs.Common.{◌<◌, ◌++◌, ◌+◌, length, drop, ap, ◌∙◌, arith}
use Rattle.nesl_seqs_base.specs.Sides.{marked}
use Rattle.nesl_seqs_build.proofs.Splitting.{kept_turn, passed_turn, beside_end}
use Rattle.nesl_seqs_build.proofs.sides.beside.Goals as goal
use Rattle.nesl_seqs_build.proofs.sides.beside.Goals.{then-flags-place+in_ok-push, else-flags-place}

pub loop-place-preserved : goal.loop-place-preserved
loop-place-preserved g c =
    let b = c.args.wanted in
    let xs = c.args.items.now in
    let cs = c.args.flags.now in
    let i = c.loop-place.place in
    let first : i < length xs = omega (arith, c.loop-place-test.true, c.min-place-end.ensures) in
    let second : i < length cs = omega (arith, c.loop-place-test.true, c.min-place-end.ensures) in
    let rest = marked b (drop (i + 1) xs) (drop (i + 1) cs) in
    elim c.if-flags-place.branch [
      | then-flags-place+in_ok-push w ↦ ap (λ v. v.items ++ rest) w.kept-is ∙ kept_turn b xs c.loop-place.kept.items _ _ cs i w.index-items-place.result first second w.index-items-place.is w.if-flags-place.true w.in_ok-push.ensures.items c.loop-place.invariant
      | else-flags-place w ↦ ap (λ v. v.items ++ rest) w.kept-is ∙ passed_turn b xs c.loop-place.kept.items _ cs i first second w.if-flags-place.false c.loop-place.invariant
    ]

pub returns : goal.returns
returns g c =
    beside_end c.args.wanted c.args.items.now c.loop-place.kept.items _ c.args.flags.now c.loop-place.place (omega (arith, c.loop-place-test.false, c.min-place-end.ensures)) c.loop-place.invariant
