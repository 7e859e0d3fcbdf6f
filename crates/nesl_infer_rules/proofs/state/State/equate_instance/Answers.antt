use Rattle.std.proofs.Common.{◌≡◌, true, map, slice_index, refl, rules}
use Rattle.nesl_types_shared.specs.Substitution.{substitute}
use Rattle.nesl_infer_rules.specs.Instances.{type_in}
use Rattle.nesl_infer_rules.proofs.Steps.{adds_equation, adds_is}
use Rattle.nesl_infer_rules.proofs.Instances.{shared_is}
use Rattle.nesl_infer_rules.proofs.state.State.equate_instance.Goals as goal

pub returns : goal.returns
returns c =
    let q = c.in_ok-equate_instance.ensures in
    let whole : c.args.self.now.is_whole ≡ true = search rules in
    let v = c.args.variable in
    let vs = c.args.fresh.now in
    let t = c.args.part.now in
    adds_is v (λ s. substitute (λ w. s (slice_index vs w)) t) (λ s. substitute (type_in (map s vs)) t) (λ s. shared_is s vs t c.requires.part)
    (adds_equation c.args.self.now _ whole refl (λ s. s v ≡ substitute (λ w. s (slice_index vs w)) t) q.members q.holds)
