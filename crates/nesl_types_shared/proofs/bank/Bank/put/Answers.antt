use Rattle.std.proofs.Common.{◌≡◌, ◌<◌, ◌++◌, ◌∷◌, [], ℕ, List, Bool, true, false, length, slice_index, IfSome, subst, sym, ap, ◌∙◌, rules}
use Rattle.nesl_types_shared.specs.Term.{Term}
use Rattle.nesl_types_shared.specs.declared.shape.Shape.{Shape}
use Rattle.nesl_types_shared.specs.Shapes.{IsShapeBelow, shape_at, shape_type, shape_size}
use Rattle.nesl_types_shared.specs.Types.{type_at, types, AreMade, IsAbsent, IsPlaced, IsPut}
use Rattle.nesl_types_shared.proofs.Absent.{bank_grown, same_shapes, placed_absent, placed_found}
use Rattle.nesl_types_shared.proofs.Made.{length-types}
use Rattle.nesl_types_shared.proofs.Placed.{bank_push, type_placed}
use Rattle.nesl_types_shared.proofs.bank.Bank.put.Goals as goal

-- the shape's parts are places of shapes
below : (ns : List Shape) (ts : List Term) (s : Shape) → types ns ≡ ts → IsShapeBelow (length ts) s → IsShapeBelow (length ns) s
below ns ts s e b = subst (λ n. IsShapeBelow n s) (ap length (sym e) ∙ length-types ns) b

-- the place of the type among the bank's types
put : (ns ms : List Shape) (ts : List Term) (s : Shape) (p : ℕ) (added : Bool) → types ns ≡ ts → AreMade ns → IsShapeBelow (length ts) s → IsPlaced ns ms s p added → IsPut ts (types ms) (shape_type (type_at ts) s) p
put ns ms ts s p added e m b i = subst (λ us. IsPut us (types ms) (shape_type (type_at us) s) p) e (type_placed ns ms s p added m i (below ns ts s e b))

pub invariant_of-self-then-added : goal.invariant_of-self-then-added
invariant_of-self-then-added c =
    let ns = c.self.inside.shapes.items in
    let s = c.args.shape in
    let k : c.in-Some.index.value.keys ≡ ns = subst (λ o. IfSome o (λ i. i.value.keys ≡ ns)) c.in-Some.is c.self.invariant.1 in
    let i = subst (λ ks. IsPlaced ks c.place_of.new.index.keys s c.in_ok-place.place c.in_ok-place.added) (ap (λ i. i.keys) c.deref_mut.ensures.value ∙ k) c.in_ok-place.ensures.ok in
    let sizes = c.push.ensures.sizes ∙ ap (λ ks. ks ++ shape_size (slice_index ks) s ∷ []) c.in_ok-reserve.ensures.sizes in
    bank_grown ns c.place_of.new.index.keys c.push.new.shapes.items c.self.inside.sizes.items c.push.new.sizes.items s c.in_ok-place.place c.in_ok-place.added c.self.invariant.0 i c.if-added.true
    (below ns c.args.self.now s c.self.view_is c.requires) (c.push.ensures.shapes ∙ ap (λ ks. ks ++ s ∷ []) c.in_ok-reserve.ensures.shapes) sizes

pub returns-then-added-clause-ok : goal.returns-then-added-clause-ok
returns-then-added-clause-ok c =
    let ns = c.self.inside.shapes.items in
    let s = c.args.shape in
    let k : c.in-Some.index.value.keys ≡ ns = subst (λ o. IfSome o (λ i. i.value.keys ≡ ns)) c.in-Some.is c.self.invariant.1 in
    let i = subst (λ ks. IsPlaced ks c.place_of.new.index.keys s c.in_ok-place.place c.in_ok-place.added) (ap (λ i. i.keys) c.deref_mut.ensures.value ∙ k) c.in_ok-place.ensures.ok in
    let e = same_shapes ns c.place_of.new.index.keys c.push.new.shapes.items s c.in_ok-place.place c.in_ok-place.added true i c.if-added.true (c.push.ensures.shapes ∙ ap (λ ks. ks ++ s ∷ []) c.in_ok-reserve.ensures.shapes) in
    put ns c.push.new.shapes.items c.args.self.now s c.in_ok-place.place c.in_ok-place.added c.self.view_is c.self.invariant.0.made c.requires
    (subst (λ ms. IsPlaced ns ms s c.in_ok-place.place c.in_ok-place.added) e i)

pub returns-else-added-clause-ok : goal.returns-else-added-clause-ok
returns-else-added-clause-ok c =
    let ns = c.self.inside.shapes.items in
    let s = c.args.shape in
    let k : c.in-Some.index.value.keys ≡ ns = subst (λ o. IfSome o (λ i. i.value.keys ≡ ns)) c.in-Some.is c.self.invariant.1 in
    let i = subst (λ ks. IsPlaced ks c.place_of.new.index.keys s c.in_ok-place.place c.in_ok-place.added) (ap (λ i. i.keys) c.deref_mut.ensures.value ∙ k) c.in_ok-place.ensures.ok in
    let e = same_shapes ns c.place_of.new.index.keys c.reserve.new.shapes.items s c.in_ok-place.place c.in_ok-place.added false i c.if-added.false c.in_ok-reserve.ensures.shapes in
    put ns c.reserve.new.shapes.items c.args.self.now s c.in_ok-place.place c.in_ok-place.added c.self.view_is c.self.invariant.0.made c.requires
    (subst (λ ms. IsPlaced ns ms s c.in_ok-place.place c.in_ok-place.added) e i)

pub returns-in-Some-place_in-clause-ok : goal.returns-in-Some-place_in-clause-ok
returns-in-Some-place_in-clause-ok c =
    let ns = c.self.inside.shapes.items in
    let s = c.args.shape in
    let p = c.in-Some-place_in.place in
    let found = subst (λ ks. (p < length ks) × (shape_at ks p ≡ s)) c.as_slice.ensures.value c.in-Some-place_in.ensures.some in
    put ns ns c.args.self.now s p false c.self.view_is c.self.invariant.0.made c.requires (placed_found ns s p c.self.invariant.0.once found.0 found.1)

pub invariant_of-self-2 : goal.invariant_of-self-2
invariant_of-self-2 c =
    let ns = c.self.inside.shapes.items in
    let ms = c.add.new.shapes.items in
    let s = c.args.shape in
    let e = c.in_ok-add.ensures in
    let none = subst (λ ks. IsAbsent ks s) c.as_slice.ensures.value c.in_default-place_in.ensures.none in (
      bank_push ns ms c.self.inside.sizes.items c.add.new.sizes.items s (length ns) c.self.invariant.0 (placed_absent ns ms s c.self.invariant.0.once none e.shapes) (below ns c.args.self.now s c.self.view_is c.requires) e.sizes,
      e.index,
    )

pub returns-clause-ok : goal.returns-clause-ok
returns-clause-ok c =
    let ns = c.self.inside.shapes.items in
    let ms = c.add.new.shapes.items in
    let s = c.args.shape in
    let none = subst (λ ks. IsAbsent ks s) c.as_slice.ensures.value c.in_default-place_in.ensures.none in
    let here : c.len-place.result ≡ length ns = search rules in
    subst (λ p. IsPut c.args.self.now (types ms) (shape_type (type_at c.args.self.now) s) p) (sym here)
    (put ns ms c.args.self.now s (length ns) true c.self.view_is c.self.invariant.0.made c.requires (placed_absent ns ms s c.self.invariant.0.once none c.in_ok-add.ensures.shapes))
