use Rattle.std.proofs.Common.{◌∙◌}
use Rattle.std.proofs.lemmas.Result.{IfOk-weaker}
use Rattle.nesl_types_shared.proofs.Same.{none_replaced}
use Rattle.nesl_types_shared.proofs.types.Ty.copy_to.Goals as goal

pub returns-clause-here : goal.returns-clause-here
returns-clause-here c = IfOk-weaker c.put.result _ _ (λ p h. h ∙ none_replaced c.args.to.now c.args.self.now) c.put.ensures.here
