use Rattle.std.proofs.Common.{◌∙◌, ap, map, reverse, arith}
use Rattle.std.proofs.lemmas.List.{take_all}
use Rattle.nesl_values.specs.View.{tree_of}
use Rattle.nesl_values.proofs.Trees.{map_turn}
use Rattle.nesl_seqs_base.proofs.Totals.{map_reverse}
use Rattle.nesl_seqs_base.proofs.copies.reversed_values.Goals as goal

pub loop-value-preserved : goal.loop-value-preserved
loop-value-preserved g c =
    map_turn tree_of tree_of c.loop-value.copies.items _ _ c.args.values.now c.loop-value.value-index c.value-item.result (omega arith) c.value-item.is c.in_ok-push.ensures.items c.loop-value.invariant c.in_ok-share.ensures

pub returns : goal.returns
returns g c =
    ap (map tree_of) c.reverse.ensures.items ∙ map_reverse tree_of c.loop-value.copies.items ∙ ap reverse (c.loop-value.invariant ∙ ap (map tree_of) (take_all c.loop-value.value-index c.args.values.now c.loop-value-test.false))
