use Rattle.std.proofs.Common.{map, ap, sym}
use Rattle.std.proofs.lemmas.List.{length-map}
use Rattle.nesl_values.specs.Tree.{sequence}
use Rattle.nesl_values.specs.Parts.{as_sequence}
use Rattle.nesl_values.specs.View.{tree_of}
use Rattle.nesl_seqs_base.specs.Lent.{argument_tree}
use Rattle.nesl_seqs_base.specs.Levels.{flattened}
use Rattle.nesl_seqs_base.specs.Outcome.{gives}
use Rattle.nesl_seqs_build.proofs.Flattening.{elements_of_all}
use Rattle.nesl_seqs_build.specs.declared.plan.Plan.{Plan}
use Rattle.nesl_seqs_build.proofs.Planned.{reading_planned}
use Rattle.nesl_seqs_build.proofs.levels.plan_flatten.Goals as goal

pub returns-in-Some : goal.returns-in-Some
returns-in-Some g c =
    let vs = c.in-Some.values.now in
    reading_planned as_sequence flattened (argument_tree c.args.argument) (map tree_of vs) (Plan.Flattened c.in-Some.values) c.in-Some.ensures.some.0 c.in-Some.ensures.some.1 (λ tss h. ap (λ ts. gives (sequence ts)) (sym (elements_of_all tree_of vs tss h))) (sym (length-map vs tree_of)) c.in-Some.ensures.some.1
