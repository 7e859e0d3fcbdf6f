use Rattle.std.proofs.Common.{refl}
use Rattle.nesl_session.proofs.Opened.{opened_keeps, opened_state, opened_as}
use Rattle.nesl_session.proofs.session.Session.opened.Goals as goal

pub returns-clause-opened : goal.returns-clause-opened
returns-clause-opened c = opened_as c.opened.result c.args.limits c.args.base c.args.cleared c.opened.ensures.state c.opened.ensures.limits

pub returns-clause-replayed : goal.returns-clause-replayed
returns-clause-replayed c = opened_state c.opened.result _ refl (opened_keeps c.opened.result c.args.base c.args.cleared c.opened.ensures.state c.opened.ensures.counts)
