use Rattle.std.proofs.Common.{◌-◌, ◌^◌}
use Rattle.nesl_seqs_base.specs.Lent.{argument_tree}
use Rattle.nesl_seqs_base.specs.Meaning.{outcome_of}
use Rattle.nesl_seqs_base.specs.Prices.{reads, depth_of}
use Rattle.nesl_seqs.proofs.Planned.{plan_priced, plan_deep}
use Rattle.nesl_seqs.proofs.functions.cost_and_size.Goals as goal

pub returns-clause-price : goal.returns-clause-price
returns-clause-price g c =
    let f = c.args.function in
    let t = argument_tree c.args.argument in
    plan_priced (outcome_of f t) (reads f t) (depth_of f (reads f t)) (2 ^ 128 - 1) c.in_ok-plan.plan c.price.result c.in-Some.price c.in_ok-plan.ensures.plan c.in-Some.is c.price.ensures

pub returns-clause-depth : goal.returns-clause-depth
returns-clause-depth g c =
    plan_deep c.in_ok-plan.plan (2 ^ 128 - 1) c.price.result c.in-Some.price c.in_ok-plan.ensures.depth c.in-Some.is c.price.ensures
