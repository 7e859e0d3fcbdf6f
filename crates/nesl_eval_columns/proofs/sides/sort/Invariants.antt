use Rattle.std.proofs.Common.{◌≤◌}
use Rattle.nesl_eval_columns.proofs.Sorting.{RanksTo}
use Rattle.nesl_eval_columns.proofs.sides.sort.Given as goal

abbrev pub invariant-loop-place : goal.invariant-loop-place
invariant-loop-place l = record {
  within : l.count ≤ l.place;
  so : RanksTo l.flags l.yes l.no l.ranks l.place l.count;
}
