use Rattle.std.proofs.Common.{◌≡◌, ◌+◌, max, map, drop}
use Rattle.std.specs.Prelude.{sum}
use Rattle.nesl_eval_column_results.specs.Costs.{greatest}
use Rattle.nesl_eval_column_results.proofs.costs.paid_each.Given as goal

abbrev pub invariant-loop-turn : goal.invariant-loop-turn
invariant-loop-turn l = record {
  work : l.work + sum (map (λ m. l.same + m) (drop l.turn l.more)) ≡ sum (map (λ m. l.same + m) l.more);
  depth : max l.depth (greatest (map (λ m. l.same + m) (drop l.turn l.more))) ≡ greatest (map (λ m. l.same + m) l.more);
}
