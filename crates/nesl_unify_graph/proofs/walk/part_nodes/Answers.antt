use Rattle.std.proofs.Common.{length, ap, ℕ, subst, arith}
use Rattle.std.proofs.lemmas.List.{length_push}
use Rattle.nesl_types_shared.specs.Types.{type_at}
use Rattle.nesl_unify_graph.specs.Instances.{parts_in}
use Rattle.nesl_unify_graph.specs.Sizes.{IsLeafSize}
use Rattle.nesl_unify_graph.proofs.Sizes.{leaf_size_at, leaf_sizes_more}
use Rattle.nesl_unify_graph.proofs.walk.part_nodes.Goals as goal

pub loop-place-preserved : goal.loop-place-preserved
loop-place-preserved c =
    let i = c.args.instances.now in
    let ns = c.args.nodes.now in
    let r = c.args.instance in
    let n = c.loop-place.place in
    let sizes = c.loop-place.sizes.items in
    let k = c.shape_nodes-size.result in
    let v = c.loop-place.invariant in
    let one = leaf_size_at i ns r n k (parts_in i r) c.parts-parts.result c.shape-shape.result c.as_slice.result.now sizes c.parts-parts.ensures c.as_slice.ensures.value v.long c.shape-shape.ensures.shape c.shape_nodes-size.ensures v.sizes in
    record {
      long = omega (arith, ap length c.in_ok-push.ensures.items, length_push sizes k, v.long);
      sizes = leaf_sizes_more i ns r n k (type_at (parts_in i r)) sizes c.push.new.self.items v.long c.in_ok-push.ensures.items one v.sizes;
    }

pub returns-then-place-part : goal.returns-then-place-part
returns-then-place-part c =
    let i = c.args.instances.now in
    let ns = c.args.nodes.now in
    let r = c.args.instance in
    let n = c.loop-place.place in
    let k = c.shape_nodes-size.result in
    let v = c.loop-place.invariant in
    let one = leaf_size_at i ns r n k (parts_in i r) c.parts-parts.result c.shape-shape.result c.as_slice.result.now c.loop-place.sizes.items c.parts-parts.ensures c.as_slice.ensures.value v.long c.shape-shape.ensures.shape c.shape_nodes-size.ensures v.sizes in
    subst (λ (p : ℕ). IsLeafSize i ns r (type_at (parts_in i r) p) k) c.if-place-part.true one
