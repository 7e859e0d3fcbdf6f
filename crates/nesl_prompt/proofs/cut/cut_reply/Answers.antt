use Rattle.std.proofs.Common.{◌++◌, ◌∙◌, ap, append_assoc, sym}
use Rattle.nesl_prompt.specs.Conversation.{cut}
use Rattle.nesl_prompt.proofs.cut.cut_reply.Goals as goal

pub returns-in-Ok : goal.returns-in-Ok
returns-in-Ok c = λ plain e.
    let front = c.split_at.result.0.now in
    let middle = c.split_at-2.result.0.now in
    let rest = c.split_at-2.result.1.now in
    cut front middle rest _ e (c.split_at.ensures.by_index.0 ∙ ap (λ b. front ++ b) c.split_at-2.ensures.by_index.0 ∙ sym (append_assoc front middle rest)) c.in-Ok.ensures
