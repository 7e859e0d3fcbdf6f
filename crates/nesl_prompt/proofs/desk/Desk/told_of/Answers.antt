use Rattle.std.proofs.Common.{ℕ, List, refl, subst}
use Rattle.nesl_prompt.specs.Points.{is_plain}
use Rattle.nesl_prompt.specs.Conversation.{IsWritten, whole}
use Rattle.nesl_prompt.proofs.Conversations.{not_plain}
use Rattle.nesl_prompt.proofs.desk.Desk.told_of.Goals as goal

pub returns-then-not-is_cut-clause-told : goal.returns-then-not-is_cut-clause-told
returns-then-not-is_cut-clause-told g c = λ line. whole refl

pub returns-in-Ok-clause-told : goal.returns-in-Ok-clause-told
returns-in-Ok-clause-told g c = λ line.
    let style = c.args.style in
    let text = c.in-Ok.text.items in
    let Replied : List ℕ → Type 0 = λ reply. IsWritten (is_plain style) reply c.as_slice.result.now text in
    let Followed : List ℕ → Type 0 = λ more. IsWritten (is_plain style) c.args.answer.bytes more text in
    let cut = c.in-Ok.ensures (is_plain style) (not_plain style (c.is_cut.ensures c.if-not-is_cut.false)) in
    subst Followed c.as_slice.ensures.value (subst Replied c.bytes-2.ensures cut)

pub returns-in-Err-clause-told : goal.returns-in-Err-clause-told
returns-in-Err-clause-told g c = λ line. whole refl
