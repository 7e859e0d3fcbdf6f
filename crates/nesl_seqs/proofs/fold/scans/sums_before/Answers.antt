use Rattle.std.proofs.Common.{◌≡◌, ◌∙◌, ◌+ℤ◌, ◌+◌, pos, ap, sym, map, take, unwrap_or, arith, to_z, w64, rules, FitsSigned}
use Rattle.std.specs.Int.{int_wrap}
use Rattle.std.proofs.lemmas.Int.{wrapping_add_onto}
use Rattle.nesl_seqs.specs.Elements.{number_in, wrapped_total}
use Rattle.nesl_seqs.proofs.Before.{read_more, pushed_more, pushed_all, wrapped_more}
use Rattle.nesl_seqs.proofs.fold.scans.sums_before.Goals as goal

pub loop-item-preserved : goal.loop-item-preserved
loop-item-preserved g c =
    let f = g.T.Item.tree in
    let is = c.args.items.now in
    let zs = map number_in (map f is) in
    let k = c.loop-item.item-index in
    let n = c.unwrap_or-total.result in
    let word : FitsSigned w64 n = search rules in
    let inv = c.loop-item.invariant in
    let read : n ≡ number_in (f c.item-item.result) = c.unwrap_or-total.ensures ∙ ap (λ o. unwrap_or o (pos 0)) c.as_int.ensures in
    let more : wrapped_total (take (k + 1) zs) ≡ int_wrap w64 (wrapped_total (take k zs) +ℤ n) = ap wrapped_total (read_more number_in f is k c.item-item.result c.loop-item-test.true c.item-item.is) ∙ wrapped_more (take k zs) (number_in (f c.item-item.result)) ∙ ap (λ z. int_wrap w64 (wrapped_total (take k zs) +ℤ z)) (sym read) in (
      wrapping_add_onto w64 c.loop-item.total-bits n c.loop-item.auto.total.fits word ∙ ap (λ z. int_wrap w64 (z +ℤ n)) inv.0 ∙ sym more,
      pushed_more wrapped_total zs k c.loop-item.sums.items _ (to_z w64 c.loop-item.total-bits) c.in_ok-push.ensures.items inv.0 inv.1,
      omega arith,
    )

pub returns : goal.returns
returns g c =
    pushed_all wrapped_total number_in g.T.Item.tree c.args.items.now c.loop-item.item-index c.loop-item.sums.items c.loop-item-test.false c.loop-item.invariant.2 c.loop-item.invariant.1
