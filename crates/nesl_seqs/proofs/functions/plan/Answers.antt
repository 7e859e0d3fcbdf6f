use Rattle.nesl_seqs_base.specs.Lent.{argument_tree}
use Rattle.nesl_seqs_base.specs.Meaning.{outcome_of}
use Rattle.nesl_seqs_base.specs.Prices.{reads}
use Rattle.nesl_seqs.proofs.Planned.{planned_deep}
use Rattle.nesl_seqs.proofs.functions.plan.Goals as goal

pub returns-clause-depth : goal.returns-clause-depth
returns-clause-depth g c =
    let f = c.args.function in
    let t = argument_tree c.args.argument in
    planned_deep f (outcome_of f t) (reads f t) c.planned.result c.planned.ensures.plan
