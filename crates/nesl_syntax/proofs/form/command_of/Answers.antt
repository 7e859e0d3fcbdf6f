use Rattle.nesl_syntax.proofs.Texts.{command_by}
use Rattle.nesl_syntax.proofs.form.command_of.Goals as goal

pub returns : goal.returns
returns c = command_by c.args.name.now c.command_named.result c.command_named.ensures.some c.command_named.ensures.none
