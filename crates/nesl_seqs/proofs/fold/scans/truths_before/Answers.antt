use Rattle.std.proofs.Common.{◌≡◌, ◌∙◌, ◌+◌, false, ap, sym, map, take, unwrap_or, arith}
use Rattle.nesl_seqs_base.specs.Scans.{joined_truths, join_truths}
use Rattle.nesl_seqs.specs.Elements.{truth_in}
use Rattle.nesl_seqs.proofs.Before.{read_more, pushed_more, pushed_all, joined_more}
use Rattle.nesl_seqs.proofs.fold.scans.truths_before.Goals as goal

pub loop-item-preserved : goal.loop-item-preserved
loop-item-preserved g c =
    let f = g.T.Item.tree in
    let j = c.args.joint in
    let is = c.args.items.now in
    let bs = map truth_in (map f is) in
    let k = c.loop-item.item-index in
    let b = c.unwrap_or.result in
    let inv = c.loop-item.invariant in
    let read : b ≡ truth_in (f c.item-item.result) = c.unwrap_or.ensures ∙ ap (λ o. unwrap_or o false) c.as_bool.ensures in
    let more : joined_truths j (take (k + 1) bs) ≡ join_truths j (joined_truths j (take k bs)) b = ap (joined_truths j) (read_more truth_in f is k c.item-item.result c.loop-item-test.true c.item-item.is) ∙ joined_more j (take k bs) (truth_in (f c.item-item.result)) ∙ ap (join_truths j (joined_truths j (take k bs))) (sym read) in (
      c.of_truths-so_far.ensures ∙ ap (λ t. join_truths j t b) inv.0 ∙ sym more,
      pushed_more (joined_truths j) bs k c.loop-item.joined.items _ c.loop-item.so_far c.in_ok-push.ensures.items inv.0 inv.1,
      omega arith,
    )

pub returns : goal.returns
returns g c =
    pushed_all (joined_truths c.args.joint) truth_in g.T.Item.tree c.args.items.now c.loop-item.item-index c.loop-item.joined.items c.loop-item-test.false c.loop-item.invariant.2 c.loop-item.invariant.1
