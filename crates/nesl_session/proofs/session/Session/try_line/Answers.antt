use Rattle.std.proofs.Common.{refl}
use Rattle.nesl_session.proofs.Lines.{keeps_step, keeps_same, answered}
use Rattle.nesl_session.proofs.session.Session.try_line.Goals as goal

pub invariant_of-self : goal.invariant_of-self
invariant_of-self g c = keeps_same c.self.inside.standing _ c.self.invariant c.in_err-answer.ensures.err c.step.ensures.limits c.step.ensures.counts

pub invariant_of-self-2 : goal.invariant_of-self-2
invariant_of-self-2 g c = keeps_step c.self.inside.standing _ c.args.text.now c.in_ok-answer.answer c.self.invariant c.in_ok-answer.ensures.step c.step.ensures.limits c.step.ensures.counts

pub returns-clause-ok : goal.returns-clause-ok
returns-clause-ok g c = answered c.self.inside.standing c.step.new.standing c.args.self.now _ c.args.text.now c.in_ok-answer.answer c.self.invariant c.in_ok-answer.ensures.step c.step.ensures.limits c.self.view_is refl
