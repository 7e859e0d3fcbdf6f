use Rattle.std.proofs.Common.{◌≡◌, ◌+◌, ◌-◌, ◌∙◌, ap, arith}
use Rattle.nesl_values.specs.Tree.{size, sizes}
use Rattle.nesl_values.specs.View.{tree_of, parts_tree, trees_view}
use Rattle.nesl_values.specs.Weight.{weight}
use Rattle.nesl_values.specs.Dropping.{heft}
use Rattle.nesl_values.proofs.Weights.{exchanged, heft-append, sizes-push}
use Rattle.nesl_values.proofs.dropping.turned.Goals as goal

pub overflow_sub-nodes : goal.overflow_sub-nodes
overflow_sub-nodes g c =
    let old : size (parts_tree c.args.parts.now) ≡ 1 + sizes (trees_view c.in-Seq.items.items) = ap (λ p. size (parts_tree p)) c.in-Seq.is in
    let popped : sizes (trees_view c.in-Seq.items.items) ≡ sizes (trees_view c.pop.new.self.items) + size (tree_of c.in-Some.parent) = ap (λ vs. sizes (trees_view vs)) c.in-Some.ensures.items ∙ sizes-push c.pop.new.self.items c.in-Some.parent in
    omega (arith, c.nodes.ensures, c.requires)

pub exchanged-requires-in_default-clause-within : goal.exchanged-requires-in_default-clause-within
exchanged-requires-in_default-clause-within g c =
    let rest = c.pop.new.self.items in
    let moved = exchanged rest c.index_mut.result.now c.in-Some.parent (c.len.result - 1) (omega (arith, c.pop.new.self.ok.0, c.len.ensures)) c.index_mut.ensures.value in
    let old : size (parts_tree c.args.parts.now) ≡ 1 + sizes (trees_view c.in-Seq.items.items) = ap (λ p. size (parts_tree p)) c.in-Seq.is in
    let popped : sizes (trees_view c.in-Seq.items.items) ≡ sizes (trees_view rest) + size (tree_of c.in-Some.parent) = ap (λ vs. sizes (trees_view vs)) c.in-Some.ensures.items ∙ sizes-push rest c.in-Some.parent in
    omega (arith, moved.within, c.nodes.ensures, c.requires)

pub returns-in_default-clause-counted : goal.returns-in_default-clause-counted
returns-in_default-clause-counted g c =
    let rest = c.pop.new.self.items in
    let moved = exchanged rest c.index_mut.result.now c.exchanged-in_default.new.child (c.len.result - 1) (omega (arith, c.pop.new.self.ok.0, c.len.ensures)) c.index_mut.ensures.value in
    let old : size (parts_tree c.args.parts.now) ≡ 1 + sizes (trees_view c.in-Seq.items.items) = ap (λ p. size (parts_tree p)) c.in-Seq.is in
    let popped : sizes (trees_view c.in-Seq.items.items) ≡ sizes (trees_view rest) + size (tree_of c.in-Some.parent) = ap (λ vs. sizes (trees_view vs)) c.in-Some.ensures.items ∙ sizes-push rest c.in-Some.parent in
    let last : size (tree_of c.exchanged-in_default.new.child) ≡ size (tree_of c.in-Some.parent) = ap size c.exchanged-in_default.ensures.put in
    omega (arith, moved.sizes_after, c.exchanged-in_default.ensures.nodes, c.nodes.ensures, c.requires)

pub returns-in_default-clause-turn : goal.returns-in_default-clause-turn
returns-in_default-clause-turn g c =
    let rest = c.pop.new.self.items in
    let moved = exchanged rest c.index_mut.result.now c.exchanged-in_default.new.child (c.len.result - 1) (omega (arith, c.pop.new.self.ok.0, c.len.ensures)) c.index_mut.ensures.value in
    let old : weight (parts_tree c.args.parts.now) ≡ 1 + heft c.in-Seq.items.items = ap (λ p. weight (parts_tree p)) c.in-Seq.is in
    let popped : heft c.in-Seq.items.items ≡ heft rest + 1 + weight (tree_of c.in-Some.parent) = ap heft c.in-Some.ensures.items ∙ heft-append rest c.in-Some.parent in
    let next : weight (tree_of c.exchanged-in_default.result) ≡ weight (tree_of c.index_mut.result.now) = ap weight c.exchanged-in_default.ensures.taken in
    let last : weight (tree_of c.exchanged-in_default.new.child) ≡ weight (tree_of c.in-Some.parent) = ap weight c.exchanged-in_default.ensures.put in
    let old_size : size (parts_tree c.args.parts.now) ≡ 1 + sizes (trees_view c.in-Seq.items.items) = ap (λ p. size (parts_tree p)) c.in-Seq.is in
    let popped_size : sizes (trees_view c.in-Seq.items.items) ≡ sizes (trees_view rest) + size (tree_of c.in-Some.parent) = ap (λ vs. sizes (trees_view vs)) c.in-Some.ensures.items ∙ sizes-push rest c.in-Some.parent in
    let next_size : size (tree_of c.exchanged-in_default.result) ≡ size (tree_of c.index_mut.result.now) = ap size c.exchanged-in_default.ensures.taken in
    let last_size : size (tree_of c.exchanged-in_default.new.child) ≡ size (tree_of c.in-Some.parent) = ap size c.exchanged-in_default.ensures.put in
    (omega (arith, moved.weights_after), omega (arith, moved.sizes_after))
