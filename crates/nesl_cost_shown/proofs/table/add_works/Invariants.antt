use Rattle.std.proofs.Common.{◌≡◌, ◌++◌, map, take}
use Rattle.nesl_cost_rows.specs.Charges.{charge_of}
use Rattle.nesl_cost_shown.specs.Tables.{work_alone}
use Rattle.nesl_cost_shown.proofs.table.add_works.Given as goal

abbrev pub invariant-loop-charge : goal.invariant-loop-charge
invariant-loop-charge l =
    map charge_of l.pieces.items ≡ map charge_of l.initial.pieces.items ++ map work_alone (map charge_of (take l.charge-index l.charges))
