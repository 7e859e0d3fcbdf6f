use Rattle.std.proofs.Common.{◌≡◌, ◌+◌, rules}
use Rattle.nesl_eval_columns.proofs.Turns.{some_so}
use Rattle.nesl_eval_columns.proofs.Gathering.{three_so}
use Rattle.nesl_eval_column_results.proofs.costs.added.Goals as goal

pub returns : goal.returns
returns g c = some_so _ _ (λ v h. three_so _ (λ m n o. o ≡ m + n) (λ m n o e. search rules) c.args.left.now c.args.right.now v.items h) c.each_of_two.result c.each_of_two.ensures
