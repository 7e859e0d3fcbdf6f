use Rattle.nesl_syntax.proofs.Texts.{text_decides}
use Rattle.nesl_syntax.proofs.text.is_text.Goals as goal

pub returns : goal.returns
returns c = text_decides c.eq.result c.args.name.now c.args.text.now c.eq.ensures
