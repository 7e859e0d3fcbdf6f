use Rattle.std.proofs.Common.{◌≡◌, ◌+◌, drop, ap, ◌∙◌, sym, arith}
use Rattle.std.proofs.lemmas.List.{drop_more}
use Rattle.nesl_values.specs.Tree.{size, sizes}
use Rattle.nesl_values.specs.View.{tree_of, trees_view}
use Rattle.nesl_seqs_base.proofs.nodes.nodes_of_all.Goals as goal

pub returns-in_err-used : goal.returns-in_err-used
returns-in_err-used g c =
    let vs = c.args.values.now in
    let v = c.value-item.result in
    let here : sizes (trees_view (drop c.loop-value.value-index vs)) ≡ size (tree_of v) + sizes (trees_view (drop (c.loop-value.value-index + 1) vs)) =
    ap (λ us. sizes (trees_view us)) (drop_more vs c.loop-value.value-index v (omega arith)) ∙ ap (λ u. size (tree_of u) + sizes (trees_view (drop (c.loop-value.value-index + 1) vs))) (sym c.value-item.is) in
    rw c.from_residual.ensures (λ h. c.in_err-used.ensures (omega (arith, h)))
