use Rattle.std.proofs.Common.{ap, Some}
use Rattle.nesl_values.specs.View.{tree_of}
use Rattle.nesl_eval_column_results.proofs.Valued.{same_leads}
use Rattle.nesl_eval_column_results.proofs.columns.same_part.Goals as goal

pub returns : goal.returns
returns g c =
    same_leads c.args.steps.now (tree_of c.args.value.now) (tree_of c.in_ok-part.part.now) _ c.in_ok-part.ensures (λ k. ap Some c.in_ok-shared.ensures)
