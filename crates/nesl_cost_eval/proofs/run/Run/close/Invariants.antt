use Rattle.std.proofs.Common.{◌≡◌}
use Rattle.nesl_cost_eval.specs.Writes.{book, closed}
use Rattle.nesl_cost_eval.proofs.run.Run.close.Given as goal

abbrev pub invariant-loop-turn : goal.invariant-loop-turn
invariant-loop-turn l = book l.self ≡ closed l._turn (book l.fn.self)
