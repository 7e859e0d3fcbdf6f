use Rattle.std.proofs.Common.{◌≤◌, ◌+◌, sym, ap, ◌∙◌, arith, length, Some, None}
use Rattle.std.specs.Prelude.{option_map, option_and_then}
use Rattle.nesl_values.specs.View.{tree_of}
use Rattle.nesl_eval_code.specs.Frames.{followed}
use Rattle.nesl_eval_rounds.proofs.Found.{value_there, no_value}
use Rattle.nesl_eval_rounds.proofs.leaves.lent_part.Goals as goal

pub returns : goal.returns
returns g c =
    c.part_of.ensures
    ∙ sym (ap (option_and_then (followed c.args.steps.now))
    (value_there c.args.slots.now.items c.args.base c.args.place c.in_ok-index.index (Some (tree_of c.in_ok-whole.whole.now)) (omega (arith, c.in_ok-index.ensures)) c.in_ok-whole.ensures))

pub returns-in_err-index : goal.returns-in_err-index
returns-in_err-index g c =
    let v = c.args.slots.now in
    let past : length v.items ≤ c.args.base + c.args.place = omega (arith, c.in_err-index.ensures, v.ok.0, v.ok.1, v.small) in
    ap (option_map (λ v. tree_of v.now)) c.from_residual.ensures
    ∙ sym (ap (option_and_then (followed c.args.steps.now)) (no_value v.items c.args.base c.args.place past))

pub returns-in_err-whole : goal.returns-in_err-whole
returns-in_err-whole g c =
    ap (option_map (λ v. tree_of v.now)) c.from_residual-in_err-whole.ensures
    ∙ sym (ap (option_and_then (followed c.args.steps.now))
    (value_there c.args.slots.now.items c.args.base c.args.place c.in_ok-index.index None (omega (arith, c.in_ok-index.ensures)) c.in_err-whole.ensures))
