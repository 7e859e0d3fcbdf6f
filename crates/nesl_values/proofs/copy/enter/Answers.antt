use Rattle.std.proofs.Common.{◌≡◌, ◌+◌, ◌∙◌, [], refl, sym, ap, arith}
use Rattle.nesl_values.specs.Tree.{size, sizes}
use Rattle.nesl_values.specs.View.{tree_of, trees_view}
use Rattle.nesl_values.proofs.Trees.{size_positive}
use Rattle.nesl_values.proofs.Copies.{framed, framed_work, opened}
use Rattle.nesl_values.proofs.copy.enter.Goals as goal

pub loop-n-preserved-in-Pair : goal.loop-n-preserved-in-Pair
loop-n-preserved-in-Pair g c = (
  framed _ _ _ _ _ c.in_ok-push-in-Pair.ensures.items (sym c.in-Pair.ensures) ∙ c.loop-n.invariant.0,
  omega (arith, framed_work _ _ _ c.in_ok-push-in-Pair.ensures.items, ap size c.in-Pair.ensures, size_positive (tree_of c.in-Pair.left.now), c.loop-n.invariant.1),
)

pub loop-n-preserved-in-Tagged : goal.loop-n-preserved-in-Tagged
loop-n-preserved-in-Tagged g c = (
  framed _ _ _ _ _ c.in_ok-push-in-Tagged.ensures.items (sym c.in-Tagged.ensures) ∙ c.loop-n.invariant.0,
  omega (arith, framed_work _ _ _ c.in_ok-push-in-Tagged.ensures.items, ap size c.in-Tagged.ensures, size_positive (tree_of c.in-Tagged.inner.now), c.loop-n.invariant.1),
)

pub loop-n-preserved : goal.loop-n-preserved
loop-n-preserved g c =
    let parts : 1 + (size (tree_of c.in-Some.first.now) + sizes (trees_view c.in-Some.others.now)) ≡ size (tree_of c.loop-n.value.now) = ap size (opened {B = g.row.A.Denot} _ c.in-Values.values.now _ _ [] c.in-Sequence.ensures.0 c.in-Values.ensures.items c.in-Some.ensures.cases.0 refl) in
    (framed _ _ _ _ _ c.in_ok-push-in-Some.ensures.items (opened _ c.in-Values.values.now _ _ _ c.in-Sequence.ensures.0 c.in-Values.ensures.items c.in-Some.ensures.cases.0 c.in_ok-copies-in-Some.ensures.items) ∙ c.loop-n.invariant.0, omega (arith, framed_work _ _ _ c.in_ok-push-in-Some.ensures.items, parts, size_positive (tree_of c.in-Some.first.now), c.loop-n.invariant.1))
