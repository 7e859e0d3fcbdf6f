use Rattle.std.proofs.Common.{◌+◌, refl, length}
use Rattle.nesl_values.specs.View.{item_trees}
use Rattle.nesl_seqs_base.specs.Arguments.{two_sequences}
use Rattle.nesl_seqs_base.specs.Lent.{argument_tree}
use Rattle.nesl_seqs_base.specs.Pieces.{appended}
use Rattle.nesl_seqs_build.specs.declared.plan.Plan.{Plan}
use Rattle.nesl_seqs_build.proofs.Planned.{plan_given}
use Rattle.nesl_seqs_build.proofs.pieces.plan_append.Goals as goal

pub returns-in-Some : goal.returns-in-Some
returns-in-Some g c =
    plan_given (two_sequences (argument_tree c.args.argument)) (item_trees c.in-Some.one, item_trees c.in-Some.other) (λ p. appended p.0 p.1) (λ p. length p.0 + length p.1) (Plan.Joined c.in-Some.one c.in-Some.other) c.in-Some.ensures.parts refl refl tt
