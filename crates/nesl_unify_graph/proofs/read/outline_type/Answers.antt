use Rattle.std.proofs.Common.{◌≡◌, ◌<◌, ◌+◌, ◌-◌, ℕ, List, length, get_or, ap, subst, ◌∙◌, arith}
use Rattle.std.proofs.lemmas.List.{get_or_read}
use Rattle.std.proofs.lemmas.Result.{IfOk-weaker}
use Rattle.nesl_types_shared.specs.Shapes.{shape_type, shape_at}
use Rattle.nesl_types_shared.specs.Types.{type_at, IsPut}
use Rattle.nesl_types_shared.specs.declared.shape.Shape.{Shape}
use Rattle.nesl_types_shared.specs.Term.{Term}
use Rattle.nesl_unify_graph.specs.Outlines.{placed_shape, FitsOutline}
use Rattle.nesl_unify_graph.proofs.Outlines.{placing_on, placing_last}
use Rattle.nesl_unify_graph.proofs.read.outline_type.Goals as goal

pub loop-left-preserved : goal.loop-left-preserved
loop-left-preserved c =
    let shapes = c.args.shapes.now in
    let old = c.loop-left.bank in
    let new = c.put.new.self in
    let ps = c.loop-left.places.items in
    let left = c.loop-left.left in
    let k : ℕ = left - 1 in
    let a = c.in_ok-place.place in
    let e : k + 1 ≡ left = omega (arith, c.loop-left-test.true) in
    let s : c.placed-shape.result ≡ placed_shape ps (shape_at shapes k) = c.placed-shape.ensures ∙ ap (λ (qs : List ℕ). placed_shape qs (shape_at shapes k)) c.as_slice.ensures.value in
    placing_on shapes old new ps left k a e c.requires c.put.ensures.extends
    (subst (λ (t : Shape). IsPut old new (shape_type (type_at old) t) a) s c.in_ok-place.ensures.ok) c.loop-left.invariant

pub returns : goal.returns
returns c =
    let shapes = c.args.shapes.now in
    let bank = c.loop-left.bank in
    let ps = c.loop-left.places.items in
    let a = c.index-first.result.now in
    let z : c.loop-left.left ≡ 0 = omega (arith, c.loop-left-test.false) in
    let some : 0 < length ps = omega (arith, c.requires.some, c.loop-left.invariant.len) in
    let e : a ≡ get_or ps 0 0 = get_or_read ps 0 a some c.index-first.ensures 0 in
    IfOk-weaker c.read.result (λ t. t ≡ type_at bank a) (λ t. (g : ℕ → Term) × (FitsOutline g shapes × (t ≡ g 0)))
    (λ t h. placing_last shapes bank ps c.loop-left.left a t z c.requires c.loop-left.invariant e h) c.read.ensures
