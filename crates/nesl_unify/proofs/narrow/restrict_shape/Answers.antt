use Rattle.std.proofs.Common.{subst}
use Rattle.nesl_types.specs.Class.{IsIn}
use Rattle.nesl_types_shared.specs.Substitution.{substitute}
use Rattle.nesl_types_shared.specs.Shapes.{shape_type}
use Rattle.nesl_types_shared.specs.declared.shape.Shape.{Shape}
use Rattle.nesl_unify.proofs.narrow.restrict_shape.Goals as goal

pub returns-in_ok-restrict-in-Var-default-clause-general : goal.returns-in_ok-restrict-in-Var-default-clause-general
returns-in_ok-restrict-in-Var-default-clause-general c = λ f w of h.
    c.in_ok-restrict-in-Var-default.ensures.general w of (subst (λ (n : Shape). IsIn of c.args.class (substitute w (shape_type f n))) c.in-Var-default.is-0 h)
