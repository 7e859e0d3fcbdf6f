use Rattle.std.proofs.Common.{Some, ap, arith}
use Rattle.nesl_values.specs.View.{tree_of}
use Rattle.nesl_eval_code.specs.Frames.{local_at}
use Rattle.nesl_eval_meaning.specs.Out.{given, value}
use Rattle.nesl_eval_columns.specs.Columns.{leaves_of}
use Rattle.nesl_eval_column_results.specs.Frames.{frames_in}
use Rattle.nesl_eval_column_results.proofs.Finding.{all_are}
use Rattle.nesl_eval_column_results.proofs.Places.{row_finds, above_rows}
use Rattle.nesl_eval_column_results.proofs.names.in_rows.Goals as goal

pub returns-then-up-eq0 : goal.returns-then-up-eq0
returns-then-up-eq0 g c = λ is.
    row_finds c.args.block.now c.args.scopes.now c.args.up c.args.index c.args.steps.now (leaves_of c.in_ok-newest.field-0) is c.if-up-eq0.true c.if-not-is_empty.ensures c.in_ok-newest.ensures

pub returns : goal.returns
returns g c = λ is.
    let v = tree_of c.in_ok-value.value.now in
    all_are (λ fs. given (local_at fs c.args.up c.args.index c.args.steps.now) (λ v. value v 0 0)) (frames_in c.args.block.now c.args.scopes.now) v _ (λ k. ap Some c.in_ok-shared.ensures)
    (above_rows c.args.block.now c.args.scopes.now c.args.up c.args.index c.args.steps.now v is (omega (arith, c.if-up-eq0.false)) c.in_ok-value.ensures)
