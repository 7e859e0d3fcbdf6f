use Rattle.std.proofs.Common.{◌≡◌, ◌+◌, ◌*◌, ◌∙◌, sym, ap, arith}
use Rattle.std.proofs.lemmas.Result.{IfOk-weaker}
use Rattle.nesl_values.specs.Tree.{size}
use Rattle.nesl_values.specs.View.{tree_of}
use Rattle.nesl_values.specs.Copying.{around, work_around}
use Rattle.nesl_values.proofs.Trees.{size_positive}
use Rattle.nesl_values.proofs.Copies.{framed, framed_work}
use Rattle.nesl_values.proofs.copy.leave.Goals as goal

pub returns-in_ok-push-in-Left-clause-tree : goal.returns-in_ok-push-in-Left-clause-tree
returns-in_ok-push-in-Left-clause-tree g c =
    IfOk-weaker c.enter.result _ _ (λ _ h. h ∙ framed _ _ _ _ _ c.in_ok-push-in-Left.ensures.items (sym (ap (λ f. around f (tree_of c.args.copy)) c.in-Left.is))) c.enter.ensures.tree

pub returns-in_ok-push-in-Left-clause-less_work : goal.returns-in_ok-push-in-Left-clause-less_work
returns-in_ok-push-in-Left-clause-less_work g c =
    let here : work_around c.args.frame ≡ 3 * size (tree_of c.in-Left.right.now) + 1 = ap work_around c.in-Left.is in
    IfOk-weaker c.enter.result _ _ (λ _ h. omega (arith, h, here, framed_work _ _ _ c.in_ok-push-in-Left.ensures.items, size_positive (tree_of c.in-Left.right.now))) c.enter.ensures.less_work
