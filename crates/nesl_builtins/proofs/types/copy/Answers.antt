use Rattle.std.proofs.Common.{◌∙◌}
use Rattle.std.proofs.lemmas.Result.{IfOk-weaker}
use Rattle.nesl_types_shared.proofs.Same.{none_replaced}
use Rattle.nesl_builtins.proofs.types.copy.Goals as goal

pub returns : goal.returns
returns c =
    IfOk-weaker c.read.result _ _ (λ t h. h ∙ c.in_ok-place.ensures.here ∙ none_replaced c.new-bank.result c.args.part.now) c.read.ensures
