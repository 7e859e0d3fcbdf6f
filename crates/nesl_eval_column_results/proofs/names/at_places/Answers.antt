use Rattle.nesl_eval_columns.proofs.Turns.{some_so}
use Rattle.nesl_eval_column_results.proofs.Places.{part_of_all}
use Rattle.nesl_eval_column_results.proofs.names.at_places.Goals as goal

pub returns-in-All : goal.returns-in-All
returns-in-All g c =
    let inside = rw c.in-All.is at c.requires.1 in
    some_so _ _ (λ v h. rw (c.in-All.is, h.1) (part_of_all c.args.items.now c.in-All.field-0 c.args.from c.args.to c.requires.0 inside h.0)) c.part.result c.part.ensures
