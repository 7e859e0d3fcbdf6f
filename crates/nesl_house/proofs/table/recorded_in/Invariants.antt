use Rattle.std.proofs.Common.{◌≡◌, ◌*◌, ◌^◌, ◌≤◌, take}
use Rattle.nesl_house.specs.Table.{recorded_in}
use Rattle.nesl_house.proofs.table.recorded_in.Given as goal

abbrev pub invariant-loop-receipt : goal.invariant-loop-receipt
invariant-loop-receipt l = (l.sum ≡ recorded_in (take l.receipt-index l.receipts)) × (l.sum ≤ l.receipt-index * 2 ^ 64)
