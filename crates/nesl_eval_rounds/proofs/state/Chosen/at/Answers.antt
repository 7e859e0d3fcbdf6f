use Rattle.nesl_eval_rounds.proofs.Rows.{range_at, range_past}
use Rattle.nesl_eval_rounds.proofs.state.Chosen.at.Goals as goal

pub returns-then-turn-count : goal.returns-then-turn-count
returns-then-turn-count g c = rw (c.in-All.is) (range_at c.in-All.count c.args.turn c.if-turn-count.true)

pub returns-else-turn-count : goal.returns-else-turn-count
returns-else-turn-count g c = rw (c.in-All.is) (range_past c.in-All.count c.args.turn c.if-turn-count.false)
