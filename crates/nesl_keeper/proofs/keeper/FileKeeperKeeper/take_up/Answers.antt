use Rattle.nesl_keeper.proofs.Lasting.{taken_up}
use Rattle.nesl_keeper.proofs.keeper.FileKeeperKeeper.take_up.Goals as goal

pub returns-in-Some-clause-taken : goal.returns-in-Some-clause-taken
returns-in-Some-clause-taken g c =
    let found = rw c.in-Some.is at c.in-Ok.ensures.restored in
    taken_up c.args.lease c.resume-lease.result.lease c.in-Some.session c.session.result.now c.resume-lease.ensures.lease c.session.ensures found.1
