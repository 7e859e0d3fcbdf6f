use Rattle.nesl_prompt.proofs.Conversations.{filled, not_not}
use Rattle.nesl_prompt.proofs.desk.Desk.has_form.Goals as goal

pub returns-clause-some : goal.returns-clause-some
returns-clause-some g c = λ e. filled c.args.self.now.form.items _ c.is_empty.result c.args.self.now.form.ok.0 c.is_empty.ensures (not_not c.is_empty.result e)
