use Rattle.std.proofs.Common.{◌≡◌, ◌+◌, ◌-◌, ap, arith}
use Rattle.nesl_values.specs.Tree.{size, sizes}
use Rattle.nesl_values.specs.View.{tree_of, parts_tree, trees_view}
use Rattle.nesl_values.specs.Weight.{weight}
use Rattle.nesl_values.specs.Dropping.{heft}
use Rattle.nesl_values.proofs.Weights.{exchanged}
use Rattle.nesl_values.proofs.dropping.entered.Goals as goal

pub exchanged-requires-in_default-clause-within : goal.exchanged-requires-in_default-clause-within
exchanged-requires-in_default-clause-within g c =
    let items = c.in-Seq.items.items in
    let moved = exchanged items c.index_mut.result.now c.args.above (c.len.result - 1) (omega (arith, c.in-Seq.items.ok.0)) c.index_mut.ensures.value in
    let old : size (parts_tree c.args.parts.now) ≡ 1 + sizes (trees_view items) = ap (λ p. size (parts_tree p)) c.in-Seq.is in
    omega (arith, moved.within, c.requires.counted)

pub returns-in_default-clause-counted : goal.returns-in_default-clause-counted
returns-in_default-clause-counted g c =
    let items = c.in-Seq.items.items in
    let moved = exchanged items c.index_mut.result.now c.exchanged-in_default.new.child (c.len.result - 1) (omega (arith, c.in-Seq.items.ok.0)) c.index_mut.ensures.value in
    let old : size (parts_tree c.args.parts.now) ≡ 1 + sizes (trees_view items) = ap (λ p. size (parts_tree p)) c.in-Seq.is in
    let last : size (tree_of c.exchanged-in_default.new.child) ≡ size (tree_of c.args.above) = ap size c.exchanged-in_default.ensures.put in
    omega (arith, moved.sizes_after, c.exchanged-in_default.ensures.nodes, c.requires.counted)

pub returns-in_default-clause-way : goal.returns-in_default-clause-way
returns-in_default-clause-way g c =
    let items = c.in-Seq.items.items in
    let moved = exchanged items c.index_mut.result.now c.exchanged-in_default.new.child (c.len.result - 1) (omega (arith, c.in-Seq.items.ok.0)) c.index_mut.ensures.value in
    let old : weight (parts_tree c.args.parts.now) ≡ 1 + heft items = ap (λ p. weight (parts_tree p)) c.in-Seq.is in
    let next : weight (tree_of c.exchanged-in_default.result) ≡ weight (tree_of c.index_mut.result.now) = ap weight c.exchanged-in_default.ensures.taken in
    let last : weight (tree_of c.exchanged-in_default.new.child) ≡ weight (tree_of c.args.above) = ap weight c.exchanged-in_default.ensures.put in
    let old_size : size (parts_tree c.args.parts.now) ≡ 1 + sizes (trees_view items) = ap (λ p. size (parts_tree p)) c.in-Seq.is in
    let next_size : size (tree_of c.exchanged-in_default.result) ≡ size (tree_of c.index_mut.result.now) = ap size c.exchanged-in_default.ensures.taken in
    let last_size : size (tree_of c.exchanged-in_default.new.child) ≡ size (tree_of c.args.above) = ap size c.exchanged-in_default.ensures.put in
    (omega (arith, moved.weights_after), omega (arith, moved.lighter), omega (arith, moved.sizes_after))
