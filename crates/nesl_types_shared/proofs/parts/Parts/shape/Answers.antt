use Rattle.std.proofs.Common.{◌≡◌, ◌<◌, List, length, ap, subst, arith}
use Rattle.nesl_types_shared.specs.Term.{Term}
use Rattle.nesl_types_shared.specs.Shapes.{shape_type, shape_at}
use Rattle.nesl_types_shared.specs.Types.{type_at}
use Rattle.nesl_types_shared.proofs.Made.{length-types, type_made}
use Rattle.nesl_types_shared.proofs.parts.Parts.shape.Goals as goal

pub bounds-shapes-place : goal.bounds-shapes-place
bounds-shapes-place c = omega (arith, ap length c.self.view_is, length-types c.self.inside.shapes.now)

pub offset_bounds-shapes-place : goal.offset_bounds-shapes-place
offset_bounds-shapes-place c = omega (arith, ap length c.self.view_is, length-types c.self.inside.shapes.now)

pub returns-clause-shape : goal.returns-clause-shape
returns-clause-shape c =
    let p = c.args.place in
    let ns = c.self.inside.shapes.now in
    let w : p < length ns = omega (arith, ap length c.self.view_is, length-types ns) in
    let e = type_made ns p w (c.self.invariant.made p w) in
    subst (λ (ts : List Term). type_at ts p ≡ shape_type (type_at ts) (shape_at ns p)) c.self.view_is e
