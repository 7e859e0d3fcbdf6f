use Rattle.std.proofs.Common.{◌+◌, ◌*◌, drop}
use Rattle.nesl_eval_code.specs.Run.{run}
use Rattle.nesl_eval_column_results.specs.Costs.{costs_at}
use Rattle.nesl_eval_column_results.specs.Frames.{frames_in}
use Rattle.nesl_eval_plain.proofs.Finding.{Along}
use Rattle.nesl_eval_plain.proofs.parts.+plain.Given as goal

abbrev pub decreases-results : goal.decreases-results
decreases-results g l = l.reach.height * 8 + 1

abbrev pub decreases-column : goal.decreases-column
decreases-column g l = l.reach.height * 8 + 2

abbrev pub decreases-node : goal.decreases-node
decreases-node g l = l.reach.height * 8 + 7

abbrev pub decreases-two : goal.decreases-two
decreases-two g l = l.reach.height * 8 + 5

abbrev pub decreases-apply : goal.decreases-apply
decreases-apply g l = l.reach.height * 8 + 6

abbrev pub decreases-in_pair : goal.decreases-in_pair
decreases-in_pair g l = l.reach.height * 8 + 6

abbrev pub decreases-apply_two : goal.decreases-apply_two
decreases-apply_two g l = l.reach.height * 8 + 6

abbrev pub decreases-element : goal.decreases-element
decreases-element g l = l.reach.height * 8 + 5

abbrev pub decreases-in_let : goal.decreases-in_let
decreases-in_let g l = l.reach.height * 8 + 6

abbrev pub decreases-call : goal.decreases-call
decreases-call g l = l.reach.height * 8 + 6

abbrev pub decreases-choice : goal.decreases-choice
decreases-choice g l = l.reach.height * 8 + 6

abbrev pub decreases-chosen : goal.decreases-chosen
decreases-chosen g l = l.reach.height * 8 + 5

abbrev pub invariant-in_let-loop-binding : goal.invariant-in_let-loop-binding
invariant-in_let-loop-binding g l =
    Along (run l.reach.levels (g.T.Tops.table l.block.tops.now)) (frames_in l.block l.scopes) l.bindings l.body l.columns.items (drop l.binding-index l.bindings) (costs_at l.costs)
