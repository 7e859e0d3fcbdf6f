use Rattle.std.proofs.Common.{◌++◌, ap, ◌∙◌}
use Rattle.nesl_reply.proofs.Lists.{truths_text}
use Rattle.nesl_reply.proofs.value.write_truths.Goals as goal

pub returns : goal.returns
returns c = λ known brackets. c.in_ok-write_leaves.ensures ∙ ap (λ z. c.args.out.now.items ++ z) (truths_text known brackets c.args.ty.now c.args.items.now)
