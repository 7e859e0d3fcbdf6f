use Rattle.std.proofs.Common.{◌≡◌, ◌+◌, ◌*◌, ap, arith}
use Rattle.nesl_values.specs.Tree.{size, sizes}
use Rattle.nesl_values.specs.View.{tree_of, trees_view}
use Rattle.nesl_values.proofs.Trees.{size_positive}
use Rattle.nesl_reply.proofs.Lists.{less_after}
use Rattle.nesl_reply.proofs.value.write_others.Goals as goal

pub returns-in_ok-plan-in-Some-clause-less_work : goal.returns-in_ok-plan-in-Some-clause-less_work
returns-in_ok-plan-in-Some-clause-less_work c =
    let parts : sizes (trees_view c.args.items.now) ≡ size (tree_of c.in-Some.first.now) + sizes (trees_view c.in-Some.others.now) = ap (λ us. sizes (trees_view us)) c.in-Some.ensures.cases.0 in
    less_after c.plan-in-Some.result _ c.plan-in-Some.new.tasks.items c.plan.new.tasks.items c.args.tasks.now.items (4 * sizes (trees_view c.in-Some.others.now) + 1) (4 * sizes (trees_view c.args.items.now) + 1) c.plan-in-Some.ensures c.in_ok-plan-in-Some.ensures.work (omega (arith, size_positive (tree_of c.in-Some.first.now)))
