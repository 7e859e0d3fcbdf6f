use Rattle.std.proofs.Common.{◌≡◌, ◌<◌, IfSome, length, position, sym, subst, ap, ◌∙◌, rules}
use Rattle.nesl_types_shared.specs.contracts.shape.ShapePartialEq as shape_eq
use Rattle.nesl_types_shared.specs.Shapes.{shape_at}
use Rattle.nesl_types_shared.specs.Types.{types, AreMade}
use Rattle.nesl_types_shared.proofs.Placed.{found_place, place_type}
use Rattle.nesl_types_shared.proofs.bank.Bank.find.Goals as goal

pub returns-in-Some : goal.returns-in-Some
returns-in-Some c =
    let ns = c.self.inside.shapes.items in
    let k : c.in-Some.index.value.keys ≡ ns = subst (λ o. IfSome o (λ i. i.value.keys ≡ ns)) c.in-Some.is c.self.invariant.1 in
    let eq = (shape_eq.TheImpl.ghosts).eq in
    let ks = c.in-Some.index.value.keys in
    found_place (eq c.args.shape) ks c.args.self.now c.args.shape c.get_index_of.result (c.get_index_of.ensures.index ∙ ap (λ i. position (eq c.args.shape) i.keys) c.deref.ensures) (λ x h. search rules) (ap types k ∙ c.self.view_is) (subst AreMade (sym k) c.self.invariant.0.made)

pub returns-in-None : goal.returns-in-None
returns-in-None c =
    let ns = c.self.inside.shapes.items in
    let s = c.args.shape in
    place_type ns c.args.self.now s c.place_in.result (subst (λ ks. IfSome c.place_in.result (λ p. (p < length ks) × (shape_at ks p ≡ s))) c.as_slice.ensures.value c.place_in.ensures.some) c.self.view_is c.self.invariant.0.made
