use Rattle.std.proofs.Common.{refl}
use Rattle.nesl_values.specs.View.{tree_of}
use Rattle.nesl_eval_column_results.specs.Columns.{value_at}
use Rattle.nesl_eval_column_results.specs.declared.columns.Columns.{Same}
use Rattle.nesl_eval_column_results.proofs.Finding.{length_applies}
use Rattle.nesl_eval_column_results.proofs.functions.of_sequence.Goals as goal

pub returns-in_ok-length_of-in-Length : goal.returns-in_ok-length_of-in-Length
returns-in_ok-length_of-in-Length g c = λ s n.
    rw c.in-Length.is (length_applies s n (value_at c.args.values) (tree_of c.in_ok-sequence-in-Length.sequence) (tree_of c.in_ok-length_of-in-Length.field-0) (Same c.in_ok-length_of-in-Length.field-0) c.in_ok-sequence-in-Length.ensures c.in_ok-length_of-in-Length.ensures (λ k. refl))
