use Rattle.std.proofs.Common.{arith}
use Rattle.nesl_house.proofs.lease.Lease.line_split.Goals as goal

pub invariant_of-self : goal.invariant_of-self
invariant_of-self g c =
    let grow = c.recorded_lines_grow.ensures.grow c.self.inside.seat.session c.line_split.new.self.session c.args.text.now c.line_split.result c.line_split.ensures.answers in
    let before = c.self.invariant in
    omega (arith, grow, before)
