use Rattle.std.proofs.Common.{arith}
use Rattle.nesl_values.specs.View.{element_tree, item_trees}
use Rattle.nesl_values_builder.specs.Elements.{elements_of}
use Rattle.nesl_seqs_base.proofs.Made.{made}
use Rattle.nesl_seqs_base.proofs.Weaving.{woven_turn_of, woven_rest}
use Rattle.nesl_seqs_index.proofs.woven.woven_items.Goals as goal

pub loop-place-preserved : goal.loop-place-preserved
loop-place-preserved g c =
    woven_turn_of (item_trees c.args.one) (item_trees c.args.other) (elements_of c.loop-place.builder) _ _ c.loop-place.place (element_tree c.at.result) (element_tree c.at-in-loop-place.result) c.at.ensures c.at-in-loop-place.ensures c.in_ok-push_shared.ensures.ok c.in_ok-push_shared-2.ensures.ok c.loop-place.invariant

pub returns : goal.returns
returns g c =
    made _ _ _ c.finish.ensures (woven_rest (item_trees c.args.one) (item_trees c.args.other) (elements_of c.loop-place.builder) _ (item_trees c.part.result) c.loop-place.place c.len-3.result c.len-4.result (omega arith) (omega arith) c.len-4.ensures c.part.ensures c.in_ok-extend.ensures c.loop-place.invariant)
