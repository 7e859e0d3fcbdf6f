-- A trace with one more mark.
use Rattle.std.proofs.Common.{◌≡◌, List, [], ◌∷◌, ◌++◌}
use Rattle.std.specs.Prelude.{map}
use Rattle.std.proofs.lemmas.List.{map-append}
use Rattle.nesl_cost_rows.specs.declared.trace.Mark.{Mark}
use Rattle.nesl_cost_rows.specs.Written.{note_of}

pub one_more : (ms : List Mark) (m : Mark) → map note_of (ms ++ m ∷ []) ≡ map note_of ms ++ note_of m ∷ []
one_more ms m = map-append note_of ms (m ∷ [])
