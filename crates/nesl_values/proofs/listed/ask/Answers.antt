use Rattle.nesl_values.proofs.Questions.{asks}
use Rattle.nesl_values.proofs.listed.ask.Goals as goal

pub returns : goal.returns
returns g c = asks c.args.question c.args.questions.now.items c.push.new.self.items c.in_ok-push.ensures.items
