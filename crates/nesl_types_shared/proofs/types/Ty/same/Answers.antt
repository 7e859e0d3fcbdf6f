use Rattle.std.proofs.Common.{◌≡◌, ◌↔◌, IsTrue, List, ap, subst, ◌∙◌}
use Rattle.nesl_types_shared.specs.declared.shape.Shape.{Shape}
use Rattle.nesl_types_shared.proofs.Same.{lists_decide}
use Rattle.nesl_types_shared.proofs.types.Ty.same.Goals as goal

pub returns : goal.returns
returns c =
    let ns = c.self.inside.shapes.value.items in
    let ms = c.other.inside.shapes.value.items in
    let first : c.as_slice.result.now ≡ ns = c.as_slice.ensures.value ∙ ap (λ v. v.items) c.deref.ensures in
    let second : c.as_slice-2.result.now ≡ ms = c.as_slice-2.ensures.value ∙ ap (λ v. v.items) c.deref-2.ensures in
    let told : IsTrue c.are_same.result ↔ (ns ≡ ms) = subst (λ (ks : List Shape). IsTrue c.are_same.result ↔ (ks ≡ ms)) first (subst (λ (ks : List Shape). IsTrue c.are_same.result ↔ (c.as_slice.result.now ≡ ks)) second c.are_same.ensures) in
    let decided = lists_decide ns ms c.args.self.now c.args.other.now c.self.invariant.parts c.other.invariant.parts c.self.view_is c.other.view_is in
    (λ h. decided.0 (told.0 h), λ h. told.1 (decided.1 h))
