use Rattle.std.proofs.Common.{nat_eq, codes, ap, ◌∙◌}
use lib.Pointwise.{pointwise}
use Rattle.nesl_syntax.proofs.Texts.{text_pointwise}
use Rattle.nesl_syntax.proofs.form.is_type.Goals as goal

pub returns : goal.returns
returns c = c.eq.ensures ∙ ap (pointwise nat_eq c.args.name.now) c.as_slice.ensures ∙ text_pointwise c.args.name.now (codes "type")
