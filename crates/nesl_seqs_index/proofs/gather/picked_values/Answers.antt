use Rattle.std.proofs.Common.{◌∙◌, ap, length, map, sym, arith}
use Rattle.std.proofs.lemmas.List.{take_all}
use Rattle.nesl_seqs_base.specs.Places.{elements_at, places_of}
use Rattle.nesl_values.specs.View.{tree_of}
use Rattle.nesl_seqs_index.proofs.Picking.{viewed_more, picked_same}
use Rattle.nesl_seqs_index.proofs.gather.picked_values.Goals as goal
use Rattle.nesl_seqs_index.proofs.gather.picked_values.Goals.{in-Some+in_ok-share+in_ok-push, in_default}

pub loop-index-preserved : goal.loop-index-preserved
loop-index-preserved g c =
    let xs = c.args.values.now in
    let is = c.args.indices.now in
    elim c.match-place_of.branch [
      | in-Some+in_ok-share+in_ok-push w ↦ ap (λ v. map tree_of v.items) w.made-is ∙ viewed_more g.I.Item.tree tree_of tree_of xs is c.loop-index.index-index c.index-item.result w.in-Some.place w.index-values-place.result c.loop-index.made.items _ w.in_ok-share.field-0 (omega arith) c.index-item.is w.in-Some.ensures.place w.in-Some.ensures.within w.index-values-place.is c.loop-index.invariant w.in_ok-push.ensures.items w.in_ok-share.ensures
      | in_default w ↦ ap (λ v. map tree_of v.items) w.made-is ∙ c.loop-index.invariant ∙ ap (map tree_of) (sym (picked_same g.I.Item.tree xs is c.loop-index.index-index c.index-item.result (omega arith) c.index-item.is w.in_default.ensures.place))
    ]

pub returns : goal.returns
returns g c =
    let vs = c.args.values.now in
    c.loop-index.invariant ∙ ap (λ is. map tree_of (elements_at vs (places_of (length vs) (map g.I.Item.tree is)))) (take_all c.loop-index.index-index c.args.indices.now c.loop-index-test.false)
