use Rattle.std.proofs.Common.{◌∙◌, false, refl, true}
use Rattle.nesl_prompt.specs.Conversation.{heard, unheard}
use Rattle.nesl_line.proofs.Exchanges.{heard_as}
use Rattle.nesl_prompt.proofs.Conversations.{conversed_from, rests_in}
use Rattle.nesl_prompt.proofs.converse.converse.Goals as goal

pub returns-then-not-say : goal.returns-then-not-say
returns-then-not-say g c = unheard c.greeting.result.now refl refl refl refl c.if-not-say.ensures.sent c.greeting.ensures

pub returns-then-rest : goal.returns-then-rest
returns-then-rest g c =
    let e = c.exchange-ran.ensures.exchange in
    heard c.greeting.result.now _ _ _ c.exchange-ran.result.end _ true c.if-not-say.ensures.sent c.greeting.ensures
    (heard_as _ _ _ _ _ _ e (conversed_from _ _ _ _ _ e.passed.lines e.passed.texts c.new-desk.ensures.style c.new-desk.ensures.form e.heard.1, e.heard.2))
    (rests_in _ _ _ _ _ _ _ _ (e.heard.0 ∙ c.new-desk.ensures.style) c.if-rest.ensures) refl

pub returns : goal.returns
returns g c =
    let e = c.exchange-ran.ensures.exchange in
    heard c.greeting.result.now _ _ _ c.exchange-ran.result.end _ false c.if-not-say.ensures.sent c.greeting.ensures
    (heard_as _ _ _ _ _ _ e (conversed_from _ _ _ _ _ e.passed.lines e.passed.texts c.new-desk.ensures.style c.new-desk.ensures.form e.heard.1, e.heard.2))
    (rests_in _ _ _ _ _ _ _ _ (e.heard.0 ∙ c.new-desk.ensures.style) c.if-rest.ensures) refl
