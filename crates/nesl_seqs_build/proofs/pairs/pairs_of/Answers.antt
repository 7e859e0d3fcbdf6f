use Rattle.std.proofs.Common.{◌∙◌, ap, sym, Some, arith}
use Rattle.nesl_values.specs.View.{tree_of, item_trees}
use Rattle.nesl_seqs_build.proofs.Pairing.{pair_pushed, all_pairs}
use Rattle.nesl_seqs_build.proofs.pairs.pairs_of.Goals as goal

pub loop-place-preserved : goal.loop-place-preserved
loop-place-preserved g c =
    pair_pushed tree_of (item_trees c.args.one) (item_trees c.args.other) c.loop-place.place (tree_of c.in_ok-left.left) (tree_of c.in_ok-right.right) c.loop-place.made.items _ _ (c.at.ensures ∙ ap Some (sym c.in_ok-left.ensures)) (c.at-in-loop-place.ensures ∙ ap Some (sym c.in_ok-right.ensures)) c.loop-place.invariant c.in_ok-push.ensures.items c.in_ok-pair.ensures

pub returns : goal.returns
returns g c =
    c.loop-place.invariant ∙ all_pairs (item_trees c.args.one) (item_trees c.args.other) c.loop-place.place c.requires (omega arith)
