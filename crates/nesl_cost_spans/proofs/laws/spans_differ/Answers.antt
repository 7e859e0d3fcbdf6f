use Rattle.nesl_cost_spans.proofs.Different as different
use Rattle.nesl_cost_spans.proofs.laws.spans_differ.Goals as goal

pub returns : goal.returns
returns c = λ line ts l h p. different.spans_differ p (c.tokens_in_order.ensures.in_order line ts h)
