use Rattle.nesl_eval_machine.proofs.Hands.{last_at_hand}
use Rattle.nesl_eval_machine.proofs.state.Machine.finish_with.Goals as goal

pub returns-in-Some : goal.returns-in-Some
returns-in-Some g c = λ fits. c.resume_with.ensures c.args.self.now.frames c.in-Some.ensures.items fits

pub returns-in-None : goal.returns-in-None
returns-in-None g c = λ fits. last_at_hand (g.T.Tops.table c.args.tops.now) c.args.self.now c.pop.new.self c.args.value c.in-None.ensures.cases.0 c.in-None.ensures.cases.1 fits
