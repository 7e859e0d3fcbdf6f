use Rattle.std.proofs.Common.{◌≡◌, ℕ, ◌+◌, ◌-◌, arith}
use Rattle.nesl_types_shared.proofs.Reached.{reaching_enter}
use Rattle.nesl_types_shared.proofs.renaming.mark_reached.Goals as goal

pub loop-next-preserved-then-marks-next : goal.loop-next-preserved-then-marks-next
loop-next-preserved-then-marks-next c =
    let n = c.loop-next.next in
    let k : ℕ = n - 1 in
    let e : k + 1 ≡ n = omega arith in
    let i = c.loop-next.invariant in
    let marks = c.loop-next.marks in
    reaching_enter c.args.from.now c.args.place n k marks c.mark_parts.new.marks c.shape.result e c.if-marks-next.true c.len-next.ensures.distinct c.shape.ensures.parts c.shape.ensures.shape c.mark_parts.ensures i
