use Rattle.std.proofs.Common.{◌≡◌, Some, rules}
use Rattle.nesl_eval_columns.proofs.Turns.{some_so}
use Rattle.nesl_eval_column_results.specs.Picked.{at_number}
use Rattle.nesl_eval_column_results.proofs.Each.{each_so}
use Rattle.nesl_eval_column_results.proofs.outer.items_at.Goals as goal

pub returns : goal.returns
returns g c = some_so _ _ (λ v h. each_so _ (λ k x. at_number c.args.items.now k ≡ Some x) (λ k x e. search rules) c.args.numbers.now v.items h) c.each_of.result c.each_of.ensures
