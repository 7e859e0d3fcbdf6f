use Rattle.std.proofs.Common.{Bool, refl, subst}
use Rattle.nesl_prompt.specs.Points.{Obeyed}
use Rattle.nesl_prompt.specs.Conversation.{own, takes, waits}
use Rattle.nesl_prompt.proofs.desk.Desk.hear_first.Goals as goal

pub returns-in-Some-clause-turn : goal.returns-in-Some-clause-turn
returns-in-Some-clause-turn g c =
    let P : Bool → Type 0 = λ b. Obeyed b c.args.session.now c.obey_word.new.session in
    own c.requires.form c.in-Some.ensures.own (subst P c.in-Some.ensures.said c.obey_word.ensures.said) c.obey_word.ensures.form

pub returns-then-is_pause-clause-turn : goal.returns-then-is_pause-clause-turn
returns-then-is_pause-clause-turn g c = waits c.requires.form (c.is_pause.ensures c.if-is_pause.true) c.requires.form refl c.prompt.ensures.plain

pub returns-else-is_pause-clause-turn : goal.returns-else-is_pause-clause-turn
returns-else-is_pause-clause-turn g c = takes (λ e. c.in-None.ensures.none) (c.take.ensures.takes c.args.line.now)
