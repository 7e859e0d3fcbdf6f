use Rattle.std.proofs.Common.{◌≡◌, ◌∙◌, ◌<◌, ◌+◌, ◌∷◌, [], ◌++◌, false, ap, sym, length, map, take, get_or, arith}
use Rattle.std.specs.List.{range_with_len}
use Rattle.std.proofs.lemmas.List.{take_all, take_more, take_more_set, length-set}
use Rattle.std.proofs.lemmas.List.FromFn.{map-range_with_len_more}
use Rattle.nesl_seqs_base.specs.Scans.{joined_truths, join_truths}
use Rattle.nesl_seqs.proofs.Before.{joined_more}
use Rattle.nesl_seqs.proofs.fold.scans.truths_of_bools.Goals as goal

pub loop-place-preserved : goal.loop-place-preserved
loop-place-preserved g c =
    let j = c.args.joint in
    let bs = c.args.bools.now in
    let joined = c.loop-place.joined.items in
    let k = c.loop-place.place in
    let s = c.loop-place.so_far in
    let b = get_or bs k false in
    let at : k < length bs = c.loop-place-test.true in
    let start : 0 + k ≡ k = omega arith in
    let more : joined_truths j (take (k + 1) bs) ≡ join_truths j (joined_truths j (take k bs)) b = ap (joined_truths j) (take_more bs k false at) ∙ joined_more j (take k bs) b in (
      length-set joined k s ∙ c.loop-place.invariant.0,
      c.of_truths-so_far.ensures ∙ ap (λ t. join_truths j t b) c.loop-place.invariant.1 ∙ sym more,
      take_more_set joined k s (omega (arith, at, c.loop-place.invariant.0)) ∙ ap (λ z. take k joined ++ z ∷ []) c.loop-place.invariant.1 ∙ ap (λ ys. ys ++ joined_truths j (take k bs) ∷ []) c.loop-place.invariant.2
          ∙ sym (map-range_with_len_more (λ i. joined_truths j (take i bs)) 0 k k start),
    )

pub returns : goal.returns
returns g c =
    let bs = c.args.bools.now in
    let end : c.loop-place.place ≡ length bs = omega (arith, c.loop-place-test.false, c.loop-place.auto.place-end) in
    sym (take_all c.loop-place.place c.loop-place.joined.items (omega (arith, end, c.loop-place.invariant.0))) ∙ c.loop-place.invariant.2 ∙ ap (λ n. map (λ k. joined_truths c.args.joint (take k bs)) (range_with_len 0 n)) end
