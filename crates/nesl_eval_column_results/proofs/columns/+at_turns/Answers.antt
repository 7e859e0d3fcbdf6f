use Rattle.std.proofs.Common.{◌≡◌, Some, sym, ap, ◌∙◌}
use Rattle.std.specs.Prelude.{slice_get}
use Rattle.nesl_eval_columns.specs.Columns.{leaves_of}
use Rattle.nesl_eval_column_results.specs.Columns.{value_at}
use Rattle.nesl_eval_column_results.proofs.Each.{each_at}
use Rattle.nesl_eval_column_results.proofs.columns.+at_turns.Goals as goal

pub returns-in_ok-leaves_at-in-Leaves : goal.returns-in_ok-leaves_at-in-Leaves
returns-in_ok-leaves_at-in-Leaves g t c = λ k j e.
    let x = each_at (λ i v. slice_get (leaves_of c.in-Leaves.column) i ≡ Some v) c.args.turns.now (leaves_of c.in_ok-leaves_at-in-Leaves.field-0) k j c.in_ok-leaves_at-in-Leaves.ensures e in
    x.1 ∙ sym x.2 ∙ ap (λ d. value_at d j) (sym c.in-Leaves.is)
