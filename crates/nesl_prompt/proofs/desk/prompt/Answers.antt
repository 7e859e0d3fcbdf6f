use Rattle.nesl_prompt.proofs.Conversations.{below_none}
use Rattle.nesl_prompt.proofs.desk.prompt.Goals as goal

pub returns-clause-below : goal.returns-clause-below
returns-clause-below c = λ fault.
    let s = c.with_prompt.ensures.prompted in
    below_none c.args.style fault _ _ s.0 c.new.ensures.items c.with_prompt.ensures.unwanted s.1 s.2
