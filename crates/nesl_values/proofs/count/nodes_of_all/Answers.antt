use Rattle.std.proofs.Common.{◌≡◌, ◌+◌, ◌≤◌, ◌∙◌, take, ap, arith}
use Rattle.std.proofs.lemmas.List.{take_all}
use Rattle.nesl_values.specs.Tree.{size, sizes}
use Rattle.nesl_values.specs.View.{tree_of, trees_view}
use Rattle.nesl_values.proofs.Trees.{sizes_turn, sizes_up_to}
use Rattle.nesl_values.proofs.count.nodes_of_all.Goals as goal

pub loop-item-preserved : goal.loop-item-preserved
loop-item-preserved g c =
    let next : sizes (trees_view (take (c.loop-item.item-index + 1) c.args.items.now)) ≡ sizes (trees_view (take c.loop-item.item-index c.args.items.now)) + size (tree_of c.item-item.result) = sizes_turn tree_of c.args.items.now c.loop-item.item-index c.item-item.result (omega arith) c.item-item.is in
    (omega (arith, c.loop-item.invariant.0, c.nodes.ensures, c.in-Some.ensures), omega (arith, c.in-Some.ensures))

pub returns-in-None : goal.returns-in-None
returns-in-None g c = λ fits.
    let next : sizes (trees_view (take (c.loop-item.item-index + 1) c.args.items.now)) ≡ sizes (trees_view (take c.loop-item.item-index c.args.items.now)) + size (tree_of c.item-item.result) = sizes_turn tree_of c.args.items.now c.loop-item.item-index c.item-item.result (omega arith) c.item-item.is in
    let most : sizes (trees_view (take (c.loop-item.item-index + 1) c.args.items.now)) ≤ sizes (trees_view c.args.items.now) = sizes_up_to tree_of (c.loop-item.item-index + 1) c.args.items.now in
    c.in-None.ensures (omega (arith, fits, c.loop-item.invariant.0, c.nodes.ensures))

pub returns : goal.returns
returns g c =
    let whole : c.loop-item.total ≡ sizes (trees_view c.args.items.now) = c.loop-item.invariant.0 ∙ ap (λ vs. sizes (trees_view vs)) (take_all c.loop-item.item-index c.args.items.now (omega arith)) in
    (omega (arith, c.loop-item.invariant.1), whole)
