use Rattle.std.proofs.Common.{arith}
use Rattle.nesl_house.proofs.lease.Lease.renew.Goals as goal

pub invariant_of-self : goal.invariant_of-self
invariant_of-self c =
    let same = c.renew.ensures.recorded in
    let before = c.self.invariant in
    omega (arith, same, before)
