use Rattle.std.proofs.Common.{map, take}
use Rattle.nesl_cost_rows.specs.Charges.{charge_of}
use Rattle.nesl_cost_shown.specs.Tables.{SameWork, SameDepth}
use Rattle.nesl_cost_shown.proofs.table.rows_of.Given as goal

abbrev pub invariant-loop-piece : goal.invariant-loop-piece
invariant-loop-piece l = record {
  work : SameWork (map charge_of l.rows.items) (map charge_of (take l.piece-index l.pieces));
  depth : SameDepth (map charge_of l.rows.items) (map charge_of (take l.piece-index l.pieces));
}
