use Rattle.std.proofs.Common.{◌≡◌, ◌-◌, length, arith}
use Rattle.nesl_unify.proofs.Instances.{own_instance}
use Rattle.nesl_unify.proofs.instance.put_own.Goals as goal

pub returns : goal.returns
returns c =
    let i = c.args.instances.now in
    let ts = c.parts.result in
    let e : c.len-place.result - 1 ≡ length ts - 1 = omega (arith, c.len-place.ensures.len) in
    own_instance i c.add_instance.new.instances ts c.in_ok-duplicate.field-0 c.args.fresh.now c.in_ok-instance.instance (c.len-place.result - 1) c.args.ty.now
    c.in_ok-duplicate.ensures c.in_ok-instance.ensures c.parts.ensures.some c.parts.ensures.last c.parts.ensures.order e c.requires.below c.requires.whole
