use Rattle.nesl_prompt.proofs.Sessions.{prompts_are_sessions}
use Rattle.nesl_prompt.proofs.laws.is_the_sessions.Goals as goal

pub returns : goal.returns
returns c = prompts_are_sessions
