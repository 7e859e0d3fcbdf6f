use Rattle.std.proofs.Common.{◌≡◌, ◌++◌, take, map}
use Rattle.nesl_values.specs.View.{tree_of}
use Rattle.nesl_eval_code.specs.Frames.{row}
use Rattle.nesl_eval_rounds.specs.Slots.{places_of}
use Rattle.nesl_eval_rounds.proofs.rounds.push_row.Given as goal

abbrev pub invariant-loop-index : goal.invariant-loop-index
invariant-loop-index g l = places_of l.slots.items ≡ places_of l.fn.slots.items ++ take l.index (row l.place (map tree_of l.sources))
