use Rattle.std.proofs.Common.{◌≡◌, ◌+◌, ◌∙◌, ap, arith}
use Rattle.std.proofs.lemmas.Result.{IfOk-weaker}
use Rattle.nesl_values.specs.Tree.{size, sizes, sequence}
use Rattle.nesl_values.specs.View.{tree_of, trees_view}
use Rattle.nesl_values.proofs.Trees.{size_positive}
use Rattle.nesl_values.proofs.Copies.{framed, framed_work, next_element}
use Rattle.nesl_values.proofs.copy.leave_element.Goals as goal

pub returns-in_ok-push-in-Some-clause-tree : goal.returns-in_ok-push-in-Some-clause-tree
returns-in_ok-push-in-Some-clause-tree g c =
    IfOk-weaker c.enter.result _ _ (λ _ h. h ∙ framed _ _ _ _ _ c.in_ok-push-in-Some.ensures.items (ap sequence (next_element c.args.copies.items _ c.args.copy c.args.others.now _ _ c.in_ok-push.ensures.items c.in-Some.ensures.cases.0))) c.enter.ensures.tree

pub returns-in_ok-push-in-Some-clause-less_work : goal.returns-in_ok-push-in-Some-clause-less_work
returns-in_ok-push-in-Some-clause-less_work g c =
    let parts : sizes (trees_view c.args.others.now) ≡ size (tree_of c.in-Some.next.now) + sizes (trees_view c.in-Some.others.now) = ap (λ us. sizes (trees_view us)) c.in-Some.ensures.cases.0 in
    IfOk-weaker c.enter.result _ _ (λ _ h. omega (arith, h, parts, framed_work _ _ _ c.in_ok-push-in-Some.ensures.items, size_positive (tree_of c.in-Some.next.now))) c.enter.ensures.less_work
