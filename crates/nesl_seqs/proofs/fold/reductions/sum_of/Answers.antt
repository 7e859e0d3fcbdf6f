use Rattle.std.proofs.Common.{◌≡◌, ◌∙◌, ◌+ℤ◌, map, arith, to_z, of_z, w64, rules, FitsSigned}
use mir.Syntax.{w128}
use Rattle.std.proofs.lemmas.Int.{ints}
use Rattle.nesl_values.specs.Parts.{as_int}
use Rattle.nesl_seqs.proofs.Folds.{folded_more, folded_stop, folded_end, folded_sum}
use Rattle.nesl_seqs.proofs.fold.reductions.sum_of.Goals as goal

pub returns-in_err-total : goal.returns-in_err-total
returns-in_err-total g c =
    c.from_residual.ensures ∙ folded_stop ◌+ℤ◌ as_int g.T.Item.tree (to_z w128 c.loop-item.total-bits) c.args.items.now c.loop-item.item-index c.item-item.result _ c.loop-item-test.true c.item-item.is c.in_err-total.ensures c.loop-item.invariant.0 ∙ folded_sum as_int (map g.T.Item.tree c.args.items.now)

pub loop-item-preserved : goal.loop-item-preserved
loop-item-preserved g c =
    let t = to_z w128 c.loop-item.total-bits in
    let n = c.in_ok-total.field-0 in
    let fits : FitsSigned w64 n = search rules in
    let high = c.loop-item.invariant.1 in
    let low = c.loop-item.invariant.2 in
    let is : to_z w128 (of_z w128 (t +ℤ to_z w128 (of_z w128 (to_z w64 (of_z w64 n))))) ≡ t +ℤ n = omega (arith, ints, high, low, fits) in (
      rw is (folded_more ◌+ℤ◌ as_int g.T.Item.tree t c.args.items.now c.loop-item.item-index c.item-item.result n _ c.loop-item-test.true c.item-item.is c.in_ok-total.ensures c.loop-item.invariant.0),
      rw is (omega (arith, ints, high, low, fits)),
      rw is (omega (arith, ints, high, low, fits)),
    )

pub returns : goal.returns
returns g c =
    folded_end ◌+ℤ◌ as_int g.T.Item.tree (to_z w128 c.loop-item.total-bits) c.args.items.now c.loop-item.item-index _ c.loop-item-test.false c.loop-item.invariant.0 ∙ folded_sum as_int (map g.T.Item.tree c.args.items.now)
