use Rattle.nesl_values.specs.Parts.{elements}
use Rattle.nesl_values.specs.View.{tree_of}
use Rattle.nesl_values_builder.specs.Elements.{elements_of}
use Rattle.nesl_seqs_build.proofs.Flattening.{flat_turn}
use Rattle.nesl_seqs_build.proofs.levels.all_elements.Goals as goal

pub loop-value-preserved : goal.loop-value-preserved
loop-value-preserved g c =
    flat_turn (λ v. elements (tree_of v)) c.args.values.now c.loop-value.value-index c.value-item.result (elements_of c.loop-value.builder) _ _ c.loop-value-test.true c.value-item.is c.loop-value.invariant c.in_ok-extend.ensures c.items.ensures.items
