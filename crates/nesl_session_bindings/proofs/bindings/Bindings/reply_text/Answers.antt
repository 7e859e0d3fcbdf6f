use Rattle.nesl_session_bindings.proofs.Readers.{told_there}
use Rattle.nesl_session_bindings.proofs.bindings.Bindings.reply_text.Goals as goal

pub returns : goal.returns
returns c =
    told_there c.context.result.now c.self.inside.env c.args.self.now c.self.invariant.fit c.context.ensures c.self.view_is c.reply_text.result c.args.reply.now c.reply_text.ensures
