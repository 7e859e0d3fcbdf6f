use Rattle.std.proofs.Common.{refl}
use Rattle.nesl_session.proofs.Opened.{opened_keeps, opened_state}
use Rattle.nesl_session.proofs.session.Session.new.Goals as goal

pub returns-clause-replayed : goal.returns-clause-replayed
returns-clause-replayed c = opened_state c.opened.result _ refl (opened_keeps c.opened.result c.args.limits.session_work 0 c.opened.ensures.state c.opened.ensures.counts)
