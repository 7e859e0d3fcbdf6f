use Rattle.std.proofs.Common.{sym, subst, map, Result, ℕ}
use Rattle.nesl_values.specs.View.{tree_of}
use Rattle.nesl_eval_meaning.specs.Outcome.{lengths, common_places}
use Rattle.nesl_eval_meaning.specs.Out as out
use Rattle.nesl_cost_meaning.specs.Traced.{charged}
use Rattle.nesl_cost_eval.specs.declared.unfinished.Unfinished.{Unfinished}
use Rattle.nesl_cost_eval.specs.Writes.{Writes, LenIs}
use Rattle.nesl_cost_eval.proofs.Running.{retold}
use Rattle.nesl_cost_eval.proofs.Charging.{at_once, given_charged}
use Rattle.nesl_cost_eval.proofs.made.common_len.Goals as goal

pub returns : goal.returns
returns c = λ b.
    let s = c.args.span in
    let vs = map tree_of c.args.sequences.now in
    retold LenIs c.halted.result b b _ _ (given_charged s (lengths vs) (common_places s))
    (subst (λ (r : Result ℕ Unfinished). Writes LenIs b r b (charged s (out.given (lengths vs) (common_places s)))) (sym c.halted.ensures)
    (at_once LenIs s b c.length_of_all.result (out.given (lengths vs) (common_places s)) c.length_of_all.ensures))
