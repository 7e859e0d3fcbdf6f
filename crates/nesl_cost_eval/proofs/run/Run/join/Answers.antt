use Rattle.std.proofs.Common.{sym, subst, Result, Global}
use Rattle.nesl_values.specs.Tree as values
use Rattle.nesl_values.specs.View.{tree_of}
use Rattle.nesl_values.specs.declared.value.Value as code
use Rattle.nesl_eval_meaning.specs.Outcome.{small_enough}
use Rattle.nesl_eval_nodes.specs.Meets.{Is}
use Rattle.nesl_cost_meaning.specs.Traced.{charged}
use Rattle.nesl_cost_eval.specs.declared.run.Joined.{Joined}
use Rattle.nesl_cost_eval.specs.declared.unfinished.Unfinished.{Unfinished}
use Rattle.nesl_cost_eval.specs.Writes.{Writes, book, joined_by}
use Rattle.nesl_cost_eval.proofs.Charging.{at_once}
use Rattle.nesl_cost_eval.proofs.run.Run.join.Goals as goal

pub returns-in-Pair : goal.returns-in-Pair
returns-in-Pair c =
    let a = book c.args.self.now in
    let s = c.args.span in
    let x = tree_of c.args.left in
    let y = tree_of c.args.right in
    subst (λ (j : Joined). Writes Is a c.halted.result a (joined_by s j x y)) (sym c.in-Pair.is)
    (subst (λ (r : Result (code.Value Global) Unfinished). Writes Is a r a (charged s (small_enough s (values.pair x y)))) (sym c.halted.ensures)
    (at_once Is s a c.make_pair.result (small_enough s (values.pair x y)) c.make_pair.ensures))
