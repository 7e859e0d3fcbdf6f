use Rattle.std.proofs.Common.{◌∙◌, ap, map, false, unwrap_or}
use Rattle.std.proofs.lemmas.List.{take_all}
use Rattle.nesl_values.specs.Parts.{as_bool}
use Rattle.nesl_values.specs.View.{tree_of}
use Rattle.nesl_seqs_base.proofs.Shapes.{map_turn}
use Rattle.nesl_seqs_build.proofs.sides.packed_truths.Goals as goal

pub loop-value-preserved : goal.loop-value-preserved
loop-value-preserved g c =
    map_turn (λ v. unwrap_or (as_bool (tree_of v)) false) c.args.values.now c.loop-value.value-index c.value-item.result c.unwrap_or.result c.loop-value.bools.items _ c.loop-value-test.true c.value-item.is c.loop-value.invariant c.in_ok-push.ensures.items (c.unwrap_or.ensures ∙ ap (λ o. unwrap_or o false) c.as_bool.ensures)

pub returns : goal.returns
returns g c =
    c.loop-value.invariant ∙ ap (map (λ v. unwrap_or (as_bool (tree_of v)) false)) (take_all c.loop-value.value-index c.args.values.now c.loop-value-test.false)
