use Rattle.std.proofs.Common.{◌≡◌, take}
use Rattle.std.specs.List.{sum_by}
use Rattle.nesl_cost_rows.specs.declared.charge.Charge.{Charge}
use Rattle.nesl_cost_shown.proofs.table.work_of.Given as goal

abbrev pub invariant-loop-row : goal.invariant-loop-row
invariant-loop-row l = l.work ≡ sum_by (λ (c : Charge). c.work) (take l.row-index l.rows)
