use Rattle.nesl_line.proofs.Bytes.{sent_then, sent_stopped}
use Rattle.nesl_line.proofs.tell.say_both.Goals as goal

pub returns-then-not-send-clause-sent : goal.returns-then-not-send-clause-sent
returns-then-not-send-clause-sent g c = sent_stopped _ _ c.args.first.now c.args.second.now c.if-not-send.ensures.sent

pub returns-clause-sent : goal.returns-clause-sent
returns-clause-sent g c = sent_then _ _ _ c.args.first.now c.args.second.now c.say.result c.if-not-send.ensures.sent c.say.ensures.sent
