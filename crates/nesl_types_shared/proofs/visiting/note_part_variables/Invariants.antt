use Rattle.std.proofs.Common.{◌≡◌, ◌+◌, ◌*◌, length, fold}
use Rattle.nesl_types_shared.specs.Numbering.{variables, with_number}
use Rattle.nesl_types_shared.specs.Types.{type_at}
use Rattle.nesl_types_shared.proofs.Visited.{IsVisiting, unmarked}
use Rattle.nesl_types_shared.proofs.visiting.note_part_variables.Given as goal

abbrev pub invariant-loop-next : goal.invariant-loop-next
invariant-loop-next l = record {
  len : length l.visited.items ≡ length l.parts;
  visiting : IsVisiting (type_at l.parts) l.visited.items l.seen.keys l.stack.items (fold with_number l.initial.seen.keys (variables (type_at l.parts l.place)));
}

abbrev pub decreases-loop-next : goal.decreases-loop-next
decreases-loop-next l = 3 * unmarked l.visited.items + length l.stack.items
