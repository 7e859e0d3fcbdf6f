use Rattle.nesl_infer_names.proofs.Order.{line_order}
use Rattle.nesl_infer_names.proofs.laws.unknown_in_order.Goals as goal

pub returns : goal.returns
returns c = λ line ts l ns h k. line_order ns l (c.spans_in_order.ensures line ts l h k)
