use Rattle.std.proofs.Common.{◌∙◌, ◌++◌, ◌∷◌, [], ap, pos, get_or, map, drop, rules, w64, FitsSigned}
use Rattle.std.proofs.lemmas.Int.{to_z-of_z}
use Rattle.std.proofs.lemmas.List.{map_push}
use Rattle.nesl_values.specs.View.{tree_of, item_trees}
use Rattle.nesl_seqs_base.proofs.Made.{made}
use Rattle.nesl_seqs_build.proofs.Cutting.{piece_pushed, pieces_end}
use Rattle.nesl_seqs_build.proofs.levels.all_pieces.Goals as goal

pub loop-count-preserved : goal.loop-count-preserved
loop-count-preserved g c =
    let zs = c.args.counts.now in
    let i = c.loop-count.count-index in
    let old = c.loop-count.made.items in
    let fits : FitsSigned w64 (get_or zs i (pos 0)) = search rules in (
      piece_pushed (map tree_of old) _ _ (item_trees c.args.items) zs i c.loop-count.start c.end_of-end.result _ (pos 0) _ c.loop-count-test.true (to_z-of_z w64 (get_or zs i (pos 0)) fits) (c.part.ensures ∙ c.end_of-end.ensures.piece) c.end_of-end.ensures.rest (ap (map tree_of) c.in_ok-push.ensures.items ∙ map_push tree_of old c.in_ok-copy_of.field-0 ∙ ap (λ t. map tree_of old ++ t ∷ []) c.in_ok-copy_of.ensures) c.loop-count.invariant.0,
      c.end_of-end.ensures.within.1,
    )

pub returns : goal.returns
returns g c =
    made _ _ _ c.sequence.ensures (pieces_end (map tree_of c.loop-count.made.items) _ (drop c.loop-count.start (item_trees c.args.items)) c.args.counts.now c.loop-count.count-index c.loop-count-test.false c.loop-count.invariant.0)
