use Rattle.std.proofs.Common.{◌≡◌, ◌<◌, List, length, sym, ap, subst, arith}
use Rattle.nesl_types_shared.specs.Term.{Term}
use Rattle.nesl_types_shared.specs.Shapes.{shape_type, shape_at}
use Rattle.nesl_types_shared.specs.Types.{type_at, types}
use Rattle.nesl_types_shared.proofs.Made.{length-types, type_made}
use Rattle.nesl_types_shared.proofs.bank.Bank.shape.Goals as goal

within : (c : goal.After-as_slice) → c.args.place < length c.as_slice.result.now
within c = omega (arith, ap length c.as_slice.ensures.value, ap length c.self.view_is, length-types c.self.inside.shapes.items)

pub bounds-as_slice-place : goal.bounds-as_slice-place
bounds-as_slice-place c = within c

pub offset_bounds-as_slice-place : goal.offset_bounds-as_slice-place
offset_bounds-as_slice-place c = omega (arith, within c)

pub returns-clause-shape : goal.returns-clause-shape
returns-clause-shape c =
    let p = c.args.place in
    let ns = c.self.inside.shapes.items in
    let w : p < length ns = omega (arith, ap length c.self.view_is, length-types ns) in
    let e = type_made ns p w (c.self.invariant.0.made p w) in
    subst (λ (ts : List Term). type_at ts p ≡ shape_type (type_at ts) (shape_at c.as_slice.result.now p)) c.self.view_is (subst (λ ms. type_at (types ns) p ≡ shape_type (type_at (types ns)) (shape_at ms p)) (sym c.as_slice.ensures.value) e)
