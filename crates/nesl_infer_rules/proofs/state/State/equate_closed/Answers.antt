use Rattle.std.proofs.Common.{[], map}
use Rattle.nesl_types_shared.specs.Substitution.{substitute}
use Rattle.nesl_infer_rules.specs.Instances.{type_in}
use Rattle.nesl_infer_rules.proofs.Applied.{closed-kept}
use Rattle.nesl_infer_rules.proofs.Steps.{adds_is}
use Rattle.nesl_infer_rules.proofs.state.State.equate_closed.Goals as goal

pub returns : goal.returns
returns c =
    let t = c.args.ty.now in
    adds_is c.args.variable (λ s. substitute (type_in (map s [])) t) (λ s. t) (λ s. closed-kept (type_in (map s [])) t c.requires.ty) c.in_ok-equate_whole.ensures
