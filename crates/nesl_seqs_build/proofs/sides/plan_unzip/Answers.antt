use Rattle.std.proofs.Common.{[], map, unwrap_or, ap, sym}
use Rattle.std.proofs.lemmas.List.{length-map}
use Rattle.nesl_values.specs.Parts.{as_pair}
use Rattle.nesl_values.specs.View.{tree_of}
use Rattle.nesl_seqs_base.specs.Lent.{argument_tree}
use Rattle.nesl_seqs_base.specs.Outcome.{gives}
use Rattle.nesl_seqs_base.specs.Sides.{unzipped}
use Rattle.nesl_seqs_build.specs.Plans.{sides}
use Rattle.nesl_seqs_build.specs.declared.plan.Plan.{Plan}
use Rattle.nesl_seqs_build.proofs.Planned.{reading_planned}
use Rattle.nesl_seqs_build.proofs.sides.plan_unzip.Goals as goal

pub returns-in-Some : goal.returns-in-Some
returns-in-Some g c =
    let vs = c.in-Some.values.now in
    reading_planned as_pair unzipped (argument_tree c.args.argument) (map tree_of vs) (Plan.Unzipped c.in-Some.values) c.in-Some.ensures.some.0 c.in-Some.ensures.some.1 (λ ps h. ap (λ o. gives (sides (unwrap_or o []))) (sym h)) (sym (length-map vs tree_of)) c.in-Some.ensures.some.1
