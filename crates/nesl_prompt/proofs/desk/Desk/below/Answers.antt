use Rattle.nesl_prompt.proofs.Conversations.{below_of}
use Rattle.nesl_prompt.proofs.desk.Desk.below.Goals as goal

pub returns-clause-below : goal.returns-clause-below
returns-clause-below g c =
    let s = c.with_prompt.ensures.prompted in
    below_of c.args.style _ c.hint_below-hint.result.items _ s.0 c.hint_below-hint.ensures.wanted c.hint_below-hint.ensures.faulted c.with_prompt.ensures.unwanted s.1 s.2
