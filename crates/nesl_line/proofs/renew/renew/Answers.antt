use Rattle.nesl_line.proofs.Renewals.{renewed_since}
use Rattle.nesl_line.proofs.renew.renew.Goals as goal

pub returns-in-Ok-take_up : goal.returns-in-Ok-take_up
returns-in-Ok-take_up g c =
    let done = c.begin_anew-outcome.ensures in
    renewed_since g.K.Keeper.keeps g.K.Keeper.leaves c.args.keeper.now c.take_up.new.self c.begin_anew-outcome.new.keeper c.in-Ok-take_up.taken.lease.seat.session c.begin_anew-outcome.result c.in-Ok-take_up.ensures.left done.left done.kept
