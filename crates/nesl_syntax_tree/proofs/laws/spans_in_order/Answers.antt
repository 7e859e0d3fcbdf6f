use Rattle.nesl_syntax_tree.proofs.Spans.{line_lined}
use Rattle.nesl_syntax_tree.proofs.laws.spans_in_order.Goals as goal

pub returns : goal.returns
returns c = λ line ts l h p. line_lined p (c.tokens_in_order.ensures.in_order line ts h)
