use Rattle.std.proofs.Common.{◌≡◌, ℕ, ◌-◌, ◌<◌, Some, length, slice_get}
use Rattle.nesl_eval_code.specs.declared.code.Code.{Code}
use Rattle.nesl_eval_code.specs.Run.{slot_at, function_slot}
use Rattle.nesl_eval_top_level.specs.TopLevels.{table_in}
use Rattle.nesl_eval.specs.Reached.{Marks}
use Rattle.nesl_eval.proofs.reached.places_reached.Given as goal

abbrev pub invariant-loop-next : goal.invariant-loop-next
invariant-loop-next l = record {
  places : length l.reached.marks.items ≡ length (table_in l.tops);
  own : Marks (table_in l.tops) l.reached.marks.items l.code;
  bodies : (i j : ℕ) (body : Code) → i < l.next → slice_get l.reached.queue.items i ≡ Some j → slot_at (table_in l.tops) j ≡ Some (function_slot body) → Marks (table_in l.tops) l.reached.marks.items body;
}

abbrev pub decreases-loop-next : goal.decreases-loop-next
decreases-loop-next l = length (table_in l.tops) - l.next
