use Rattle.std.proofs.Common.{◌≡◌, Some, rules}
use Rattle.std.specs.Prelude.{slice_get}
use Rattle.nesl_eval_columns.proofs.Turns.{some_so}
use Rattle.nesl_eval_columns.proofs.Gathering.{two_so}
use Rattle.nesl_eval_columns.proofs.gather.gathered.Goals as goal

pub returns : goal.returns
returns g c = some_so _ _ (λ v h. two_so _ (λ i x. slice_get c.args.items.now i ≡ Some x) (λ i x e. search rules) c.args.places.now v.items h) c.each_of.result c.each_of.ensures
