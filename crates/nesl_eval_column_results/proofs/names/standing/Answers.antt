use Rattle.std.proofs.Common.{refl}
use Rattle.nesl_eval_columns.proofs.Turns.{some_so}
use Rattle.nesl_eval_column_results.proofs.names.standing.Goals as goal

pub returns : goal.returns
returns g c = some_so _ _ (λ v h. (c.if-not-reaches.ensures refl, h)) c.parts_of.result c.parts_of.ensures
