use Rattle.nesl_kept.proofs.Said.{sent_all}
use Rattle.nesl_kept.proofs.again.write.Goals as goal

pub returns-then-say : goal.returns-then-say
returns-then-say g c = sent_all (g.W.Sink.held c.args.writer.now) (g.W.Sink.held c.say.new.writer) c.args.bytes.now c.say.result c.say.ensures.sent c.if-say.true
