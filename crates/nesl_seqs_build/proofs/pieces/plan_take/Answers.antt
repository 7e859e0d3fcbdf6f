use Rattle.std.proofs.Common.{◌∙◌, ap, sym, length, w64, FitsSigned, rules}
use Rattle.std.proofs.lemmas.Int.{to_z-of_z}
use Rattle.nesl_values.specs.View.{item_trees}
use Rattle.nesl_seqs_base.specs.Arguments.{sequence_and_int}
use Rattle.nesl_seqs_base.specs.Lent.{argument_tree}
use Rattle.nesl_seqs_base.specs.Pieces.{taken}
use Rattle.nesl_seqs_build.specs.declared.plan.Plan.{Plan}
use Rattle.nesl_seqs_build.proofs.Planned.{plan_given}
use Rattle.nesl_seqs_build.proofs.pieces.plan_take.Goals as goal

pub returns : goal.returns
returns g c =
    let ts = item_trees c.in-Some.items in
    let fits : FitsSigned w64 c.in-Some.count = search rules in
    plan_given (sequence_and_int (argument_tree c.args.argument)) (ts, c.in-Some.count) (λ p. taken p.0 p.1) (λ p. length p.0) (Plan.Part c.in_ok-part.part c.len.result) c.in-Some.ensures.parts (ap (taken ts) (sym (to_z-of_z w64 c.in-Some.count fits)) ∙ c.in_ok-part.ensures) c.len.ensures tt
