use Rattle.std.proofs.lemmas.Option.{slice_get_within}
use Rattle.nesl_eval_column_results.proofs.Framed.{at_let, at_call, at_turn}
use Rattle.nesl_eval_column_results.proofs.Places.{rows_count}
use Rattle.nesl_eval_column_results.proofs.scopes.+count.Goals as goal

pub returns-in-Rows : goal.returns-in-Rows
returns-in-Rows g t c = λ k fs e. rows_count c.args.block.now c.args.scopes.now k fs c.requires c.in-Rows.is e

pub returns-in-Let : goal.returns-in-Let
returns-in-Let g t c = λ k fs e.
    let w = at_let c.args.block.now c.args.scopes.now k fs c.in-Let.field-0 c.in-Let.rest c.in-Let.is e in
    c.count.ensures k w.0 w.1

pub returns-in-Turns : goal.returns-in-Turns
returns-in-Turns g t c = λ k fs e.
    let w = at_turn c.args.block.now c.args.scopes.now k fs c.in-Turns.turns c.in-Turns.field-1 c.in-Turns.is e in
    slice_get_within c.in-Turns.turns.now k w.0 w.1

pub returns-in-Call : goal.returns-in-Call
returns-in-Call g t c = λ k fs e.
    let w = at_call c.args.block.now c.args.scopes.now k fs c.in-Call.field-0 c.in-Call.rest c.in-Call.is e in
    c.count-in-Call.ensures k w.0 w.1
