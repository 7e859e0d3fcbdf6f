use Rattle.nesl_seqs_base.specs.Lent.{argument_tree}
use Rattle.nesl_seqs_base.specs.Meaning.{outcome_of}
use Rattle.nesl_seqs_base.specs.Prices.{reads, depth_of}
use Rattle.nesl_seqs.proofs.Planned.{plan_built}
use Rattle.nesl_seqs.proofs.functions.apply.Goals as goal

pub returns : goal.returns
returns g c =
    let f = c.args.function in
    let t = argument_tree c.args.argument in
    plan_built (outcome_of f t) (reads f t) (depth_of f (reads f t)) c.in-Ok.plan c.build.result c.in-Ok.ensures.plan c.build.ensures
