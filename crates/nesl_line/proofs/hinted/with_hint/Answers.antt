use Rattle.std.proofs.Common.{refl}
use Rattle.nesl_line.specs.Hinted.{hinted}
use Rattle.nesl_line.proofs.hinted.with_hint.Goals as goal

pub returns-in-Ok : goal.returns-in-Ok
returns-in-Ok c = λ line. rw (c.in-By.is) (hinted c.in-Ok.more.items c.in-Ok.ensures refl)
