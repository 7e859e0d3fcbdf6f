use Rattle.nesl_session.proofs.Lines.{refused}
use Rattle.nesl_session.proofs.session.Session.fault_of.Goals as goal

pub returns : goal.returns
returns c = refused c.self.inside.standing c.args.self.now c.args.text.now c.in_ok-finding.finding _ c.self.invariant c.self.view_is c.in_ok-finding.ensures.found c.fault-fault.ensures
