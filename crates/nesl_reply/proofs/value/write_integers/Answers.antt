use Rattle.std.proofs.Common.{◌++◌, ap, ◌∙◌}
use Rattle.nesl_reply.proofs.Lists.{integers_text}
use Rattle.nesl_reply.proofs.value.write_integers.Goals as goal

pub returns : goal.returns
returns c = λ known brackets. c.in_ok-write_leaves.ensures ∙ ap (λ z. c.args.out.now.items ++ z) (integers_text known brackets c.args.ty.now c.args.items.now)
