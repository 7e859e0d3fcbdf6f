use Rattle.nesl_line.proofs.Unique.{conversation_one}
use Rattle.nesl_line.proofs.laws.one_conversation.Goals as goal

pub returns : goal.returns
returns c = conversation_one
