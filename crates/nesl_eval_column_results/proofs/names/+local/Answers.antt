use Rattle.std.proofs.Common.{◌-◌, Some, subst, arith, refl}
use Rattle.nesl_eval_code.specs.Frames.{local_at}
use Rattle.nesl_eval_meaning.specs.Out.{given, value}
use Rattle.nesl_eval_columns.proofs.Turns.{some_so}
use Rattle.nesl_eval_column_results.specs.Columns.{value_at}
use Rattle.nesl_eval_column_results.specs.Frames.{IsAt}
use Rattle.nesl_eval_column_results.proofs.Framed.{turns_find, at_let, at_call, below_let}
use Rattle.nesl_eval_column_results.proofs.Places.{name_below, bound_finds, argument_finds}
use Rattle.nesl_eval_column_results.proofs.names.+local.Goals as goal

pub returns-in-Rows : goal.returns-in-Rows
returns-in-Rows g t c = c.in_rows.ensures c.in-Rows.is

pub returns-then-up-gt0 : goal.returns-then-up-gt0
returns-then-up-gt0 g t c =
    let up = c.args.up in
    let index = c.args.index in
    let steps = c.args.steps.now in
    some_so _ _ (λ r h. below_let c.args.block.now c.args.scopes.now c.in-Let.bindings c.in-Let.rest (λ fs. given (local_at fs up index steps) (λ v. value v 0 0)) (λ fs. given (local_at fs (up - 1) index steps) (λ v. value v 0 0)) (value_at r) (λ k. Some 0) c.in-Let.is (name_below up index steps c.if-up-gt0.true) h) c.local.result c.local.ensures

pub returns-else-up-gt0 : goal.returns-else-up-gt0
returns-else-up-gt0 g t c =
    let up = c.args.up in
    let index = c.args.index in
    let steps = c.args.steps.now in
    let cs = c.in-Let.bindings.now in
    let least = c.count-least.result in
    some_so _ _ (λ r h. λ k fs e.
    let w = at_let c.args.block.now c.args.scopes.now k fs c.in-Let.bindings c.in-Let.rest c.in-Let.is e in
    subst (λ hs. IsAt (value_at r) (λ j. Some 0) k (given (local_at hs up index steps) (λ v. value v 0 0))) w.2
    (bound_finds cs w.0 up index k least steps (value_at r) (omega (arith, c.if-up-gt0.false)) h (c.count-least.ensures k w.0 w.1))) c.bound.result c.bound.ensures

pub returns-in_ok-values-in-Turns : goal.returns-in_ok-values-in-Turns
returns-in_ok-values-in-Turns g t c =
    let f = c.in_ok-values-in-Turns.values in
    some_so _ _ (λ r h. turns_find c.args.block.now c.args.scopes.now c.in-Turns.turns c.in-Turns.rest (λ fs. given (local_at fs c.args.up c.args.index c.args.steps.now) (λ v. value v 0 0)) (value_at f) (value_at r) (λ k. Some 0) (λ k. Some 0) c.in-Turns.is c.in_ok-values-in-Turns.ensures (λ k j e. (h k j e, refl))) c.at_turns.result c.at_turns.ensures

pub returns-else-index-gt0 : goal.returns-else-index-gt0
returns-else-index-gt0 g t c =
    let up = c.args.up in
    let index = c.args.index in
    let steps = c.args.steps.now in
    let argument = c.in-Call.argument.now in
    some_so _ _ (λ r h. λ k fs e.
    let w = at_call c.args.block.now c.args.scopes.now k fs c.in-Call.argument c.in-Call.rest c.in-Call.is e in
    subst (λ hs. IsAt (value_at r) (λ j. Some 0) k (given (local_at hs up index steps) (λ v. value v 0 0))) w.2
    (argument_finds argument up index k c.count-least-in-Call.result steps (value_at r) (omega (arith, c.if-up-gt0-2.false)) (omega (arith, c.if-index-gt0.false)) h (c.count-least-in-Call.ensures k w.0 w.1))) c.standing.result c.standing.ensures
