-- The charges of a table.
use Rattle.std.specs.Prelude.{List, map}
use Rattle.nesl_cost_meaning.specs.Cost.{Charge}
use Rattle.nesl_cost_rows.specs.Charges.{charge_of}
use Rattle.nesl_cost_shown.specs.declared.table.PlaceTable.{PlaceTable}

abbrev pub charges_shown : PlaceTable → List Charge
charges_shown t = map charge_of t.rows.items
