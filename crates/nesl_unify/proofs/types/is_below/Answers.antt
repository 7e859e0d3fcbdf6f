use Rattle.std.proofs.Common.{◌≡◌, ◌<◌, length, subst, arith}
use Rattle.nesl_types_shared.specs.Term.{variable}
use Rattle.nesl_types_shared.specs.Numbering.{IsBelow}
use Rattle.nesl_types_shared.specs.Types.{type_at}
use Rattle.nesl_unify.proofs.Below.{part_below}
use Rattle.nesl_unify.proofs.types.is_below.Goals as goal

pub returns-then-variable-count : goal.returns-then-variable-count
returns-then-variable-count c =
    let n = c.args.count in
    let k = c.loop-place.place in
    let parts = c.parts-parts.result in
    let v = c.in-Var.variable in
    let e : type_at parts k ≡ variable v = c.in-Var.ensures.shape in
    let inside : k < length parts = omega (arith, c.len-place-end.ensures.len, c.loop-place-test.true) in (
      (λ h. cc),
      λ h.
          let below : v < n = subst (IsBelow n) e (part_below n k parts c.args.ty.now c.parts-parts.ensures.order inside h) in
          absurd (omega (arith, c.if-variable-count.true)),
    )
