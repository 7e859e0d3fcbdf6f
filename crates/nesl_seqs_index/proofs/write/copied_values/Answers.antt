use Rattle.std.proofs.Common.{◌∙◌, arith}
use Rattle.std.proofs.lemmas.List.{take_all}
use Rattle.nesl_values.specs.View.{tree_of, element_tree, item_trees}
use Rattle.nesl_seqs_index.proofs.Writing.{copied_more}
use Rattle.nesl_seqs_index.proofs.write.copied_values.Goals as goal

pub loop-place-preserved : goal.loop-place-preserved
loop-place-preserved g c =
    copied_more tree_of (item_trees c.args.items) c.loop-place.place (element_tree c.at.result) c.loop-place.made.items _ c.in_ok-share.field-0 c.at.ensures c.loop-place.invariant c.in_ok-push.ensures.items c.in_ok-share.ensures

pub returns : goal.returns
returns g c =
    c.loop-place.invariant ∙ take_all c.loop-place.place (item_trees c.args.items) (omega (arith, c.loop-place-test.false, c.len-place-end.ensures))
