use Rattle.std.proofs.Common.{◌++◌, ap, sym, ◌∙◌}
use Rattle.nesl_reply.proofs.Lists.{characters_text, quoted_text}
use Rattle.nesl_reply.proofs.value.write_characters.Goals as goal

pub returns-then-is_packed_text : goal.returns-then-is_packed_text
returns-then-is_packed_text c = λ known brackets. c.in_ok-write_text.ensures ∙ ap (λ z. c.args.out.now.items ++ z) (quoted_text known brackets c.args.ty.now c.args.bytes.now (sym c.is_packed_text.ensures ∙ c.if-is_packed_text.true))

pub returns : goal.returns
returns c = λ known brackets. c.in_ok-write_leaves.ensures ∙ ap (λ z. c.args.out.now.items ++ z) (characters_text known brackets c.args.ty.now c.args.bytes.now (sym c.is_packed_text.ensures ∙ c.if-is_packed_text.false))
