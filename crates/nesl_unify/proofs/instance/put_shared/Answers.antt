use Rattle.std.proofs.Common.{◌∙◌}
use Rattle.nesl_unify.proofs.Facts.{replaced_none}
use Rattle.nesl_unify.proofs.Instances.{shared_instance}
use Rattle.nesl_unify.proofs.instance.put_shared.Goals as goal

pub returns : goal.returns
returns c =
    let i = c.args.instances.now in
    let e = c.in_ok-instance.ensures in
    shared_instance i c.put.new.to c.add_instance.new.instances c.args.fresh.now c.in_ok-instance.instance c.in_ok-place.place c.args.part.now c.put.ensures.extends e c.in_ok-place.ensures.within
    (c.in_ok-place.ensures.here ∙ replaced_none i.shared c.args.part.now) c.requires.below c.requires.whole
