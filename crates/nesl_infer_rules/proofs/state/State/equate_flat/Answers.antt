use Rattle.std.proofs.Common.{◌≡◌, true, refl, rules}
use Rattle.nesl_types_shared.specs.Substitution.{substitute}
use Rattle.nesl_unify.specs.Flat.{flat_type}
use Rattle.nesl_infer_rules.proofs.Steps.{adds_equation}
use Rattle.nesl_infer_rules.proofs.state.State.equate_flat.Goals as goal

pub returns : goal.returns
returns c =
    let q = c.in_ok-equate_flat.ensures in
    let whole : c.args.self.now.is_whole ≡ true = search rules in
    adds_equation c.args.self.now _ whole refl (λ s. s c.args.variable ≡ substitute s (flat_type c.args.flat)) q.members q.holds
