use Rattle.std.proofs.Common.{subst, Result, Global}
use Rattle.nesl_values.specs.declared.value.Value as code
use Rattle.nesl_eval_nodes.specs.Meets.{Is}
use Rattle.nesl_cost_eval.specs.declared.unfinished.Unfinished.{Unfinished}
use Rattle.nesl_cost_eval.specs.Writes.{Writes, calling}
use Rattle.nesl_cost_eval.proofs.Charging.{called_ok}
use Rattle.nesl_cost_eval.proofs.unfinished.called_at.Goals as goal

pub returns-in-Ok : goal.returns-in-Ok
returns-in-Ok c = λ a b o h.
    let x = c.args.name.now in
    let s = c.args.span in
    called_ok x s c.in-Ok.value a b o (subst (λ (r : Result (code.Value Global) Unfinished). Writes Is (calling x s a) r b o) c.in-Ok.is h)

pub returns-in-Err : goal.returns-in-Err
returns-in-Err c = λ a b o h.
    let x = c.args.name.now in
    let s = c.args.span in
    c.past_call.ensures a b o (subst (λ (r : Result (code.Value Global) Unfinished). Writes Is (calling x s a) r b o) c.in-Err.is h)
