use Rattle.std.proofs.Common.{[], ◌∙◌, ap, refl}
use Rattle.nesl_prompt.specs.Points.{is_plain}
use Rattle.nesl_prompt.specs.Conversation.{cut_off, last_form, silence}
use Rattle.nesl_prompt.proofs.Conversations.{plain_of, plain_parts, told_plainly}
use Rattle.nesl_prompt.proofs.converse.rest.Goals as goal

pub returns-then-not-say : goal.returns-then-not-say
returns-then-not-say g c = cut_off c.parting.result.now refl c.if-not-say.ensures.sent refl (λ e. c.parting.ensures (ap is_plain c.style-style.ensures ∙ e))

pub returns-then-not-is_end_of_input : goal.returns-then-not-is_end_of_input
returns-then-not-is_end_of_input g c =
    silence c.parting.result.now (λ e. absurd (c.is_end_of_input.ensures c.if-not-is_end_of_input.true e)) refl c.if-not-say.ensures.sent refl (λ e. c.parting.ensures (ap is_plain c.style-style.ensures ∙ e))

pub returns-then-not-has_form : goal.returns-then-not-has_form
returns-then-not-has_form g c =
    silence c.parting.result.now (λ e. c.has_form.ensures.none c.if-not-has_form.true) refl c.if-not-say.ensures.sent refl (λ e. c.parting.ensures (ap is_plain c.style-style.ensures ∙ e))

pub returns : goal.returns
returns g c =
    let s = c.answer_form-output.ensures.said in
    last_form _ c.parting.result.now _ s.0 (c.has_form.ensures.some c.if-not-has_form.false) c.if-not-say.ensures.sent (λ e. c.parting.ensures (ap is_plain c.style-style.ensures ∙ e)) s.1
    (told_plainly _ _ _ _ (λ e. plain_of _ c.without_prompts.ensures.prompts (c.without_prompts.ensures.hints ∙ (plain_parts _ (ap is_plain c.style-style.ensures ∙ e)).1)) (s.2 [])) c.tell.ensures.sent
