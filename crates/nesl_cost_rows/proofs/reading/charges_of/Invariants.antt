use Rattle.std.proofs.Common.{◌≡◌, map}
use Rattle.nesl_cost_rows.specs.Written.{note_of}
use Rattle.nesl_cost_rows.specs.Readings.{state_of, read_on}
use Rattle.nesl_cost_rows.proofs.ReadBack.{notes_from, nothing_read}
use Rattle.nesl_cost_rows.proofs.reading.charges_of.Given as goal

abbrev pub invariant-loop-mark : goal.invariant-loop-mark
invariant-loop-mark l = read_on (notes_from l.mark-index l.marks) (state_of l.reading) ≡ read_on (map note_of l.marks) nothing_read
