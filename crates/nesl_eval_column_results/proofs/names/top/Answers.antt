use Rattle.std.proofs.Common.{Some, ap}
use Rattle.nesl_values.specs.View.{tree_of}
use Rattle.nesl_eval_code.specs.Run.{run_top, slot_at}
use Rattle.nesl_eval_column_results.specs.Frames.{frames_in}
use Rattle.nesl_eval_column_results.proofs.Finding.{all_are}
use Rattle.nesl_eval_column_results.proofs.names.top.Goals as goal

pub returns : goal.returns
returns g c =
    let b = c.args.block.now in
    all_are (λ fs. run_top (slot_at (g.T.Tops.table b.tops.now) c.args.place)) (frames_in b c.args.scopes.now) (tree_of c.in_ok-value.value.now) _ (λ k. ap Some c.in_ok-shared.ensures) (λ k fs e. c.in_ok-value.ensures)
