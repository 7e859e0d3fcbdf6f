use Rattle.std.proofs.Common.{◌≡◌, ◌∙◌, ◌+ℤ◌, ◌+◌, pos, ap, sym, map, take, unwrap_or, length, arith, to_z, of_z, w64, rules, FitsSigned}
use mir.Syntax.{w128}
use Rattle.std.specs.List.{list_all}
use Rattle.std.proofs.lemmas.Int.{ints}
use Rattle.std.proofs.lemmas.List.{length-map}
use Rattle.nesl_seqs_base.specs.Outcome.{fits}
use Rattle.nesl_seqs_base.specs.Reductions.{total}
use Rattle.nesl_seqs.specs.Elements.{number_in}
use Rattle.nesl_seqs.proofs.Before.{first_told, fit_more, read_more, total_more}
use Rattle.nesl_seqs.proofs.fold.scans.sums_fit.Goals as goal

pub loop-item-preserved : goal.loop-item-preserved
loop-item-preserved g c =
    let f = g.T.Item.tree in
    let is = c.args.items.now in
    let zs = map number_in (map f is) in
    let k = c.loop-item.item-index in
    let t = to_z w128 c.loop-item.total-bits in
    let n = c.unwrap_or.result in
    let word : FitsSigned w64 n = search rules in
    let inv = c.loop-item.invariant in
    let high = inv.2 in
    let low = inv.3 in
    let read : n ≡ number_in (f c.item-item.result) = c.unwrap_or.ensures ∙ ap (λ o. unwrap_or o (pos 0)) c.as_int.ensures in
    let more : total (take (k + 1) zs) ≡ total (take k zs) +ℤ n = ap total (read_more number_in f is k c.item-item.result c.loop-item-test.true c.item-item.is) ∙ total_more (take k zs) (number_in (f c.item-item.result)) ∙ ap (λ z. total (take k zs) +ℤ z) (sym read) in
    let next : to_z w128 (of_z w128 (t +ℤ to_z w128 (of_z w128 (to_z w64 (of_z w64 n))))) ≡ t +ℤ n = omega (arith, ints, high, low, word) in (
      fit_more zs k c.loop-item.fit c.fits-fit.result t inv.0 c.fits-fit.ensures inv.1,
      next ∙ ap (λ z. z +ℤ n) inv.1 ∙ sym more,
      rw next (omega (arith, ints, high, low, word)),
      rw next (omega (arith, ints, high, low, word)),
      omega arith,
    )

pub returns : goal.returns
returns g c =
    let f = g.T.Item.tree in
    let is = c.args.items.now in
    let zs = map number_in (map f is) in
    let end : c.loop-item.item-index ≡ length zs = omega (arith, c.loop-item-test.false, c.loop-item.invariant.4, length-map (map f is) number_in, length-map is f) in
    c.loop-item.invariant.0 ∙ ap (λ k. list_all fits (first_told total zs k)) end
