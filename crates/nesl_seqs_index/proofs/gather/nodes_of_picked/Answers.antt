use Rattle.std.proofs.Common.{ap, arith}
use Rattle.nesl_values.specs.Tree.{sizes}
use Rattle.nesl_values.specs.View.{trees_view}
use Rattle.nesl_seqs_index.proofs.Picking.{picked_rest, picked_rest_same}
use Rattle.nesl_seqs_index.proofs.gather.nodes_of_picked.Goals as goal
use Rattle.nesl_seqs_index.proofs.gather.nodes_of_picked.Goals.{in-Some+in_ok-used, in_default}

pub returns-in_err-used : goal.returns-in_err-used
returns-in_err-used g c =
    let vs = c.args.values.now in
    let is = c.args.indices.now in
    let j = c.loop-index.index-index in
    let here = ap (λ us. sizes (trees_view us)) (picked_rest g.I.Item.tree vs is j c.index-item.result c.in-Some.place c.index-values-place.result (omega arith) c.index-item.is c.in-Some.ensures.place c.in-Some.ensures.within c.index-values-place.is) in
    rw c.from_residual.ensures (λ h. c.in_err-used.ensures (omega (arith, h)))

pub loop-index-preserved : goal.loop-index-preserved
loop-index-preserved g c =
    let vs = c.args.values.now in
    let is = c.args.indices.now in
    let j = c.loop-index.index-index in
    elim c.match-place_of.branch [
      | in-Some+in_ok-used w ↦
          let here = ap (λ us. sizes (trees_view us)) (picked_rest g.I.Item.tree vs is j c.index-item.result w.in-Some.place w.index-values-place.result (omega arith) c.index-item.is w.in-Some.ensures.place w.in-Some.ensures.within w.index-values-place.is) in
          (omega arith, omega arith)
      | in_default w ↦
          let here = ap (λ us. sizes (trees_view us)) (picked_rest_same g.I.Item.tree vs is j c.index-item.result (omega arith) c.index-item.is w.in_default.ensures.place) in
          (omega arith, omega arith)
    ]
