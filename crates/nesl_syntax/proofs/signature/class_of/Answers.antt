use Rattle.nesl_syntax.proofs.Texts.{class_by}
use Rattle.nesl_syntax.proofs.signature.class_of.Goals as goal

pub returns : goal.returns
returns c = class_by c.args.name.now c.class_named.result c.class_named.ensures.some c.class_named.ensures.none
