use Rattle.nesl_lex.proofs.Places.{in_order, stands_in}
use Rattle.nesl_lex.proofs.laws.tokens_in_order.Goals as goal

pub returns : goal.returns
returns c = record { in_order = in_order; stand_in = stands_in }
