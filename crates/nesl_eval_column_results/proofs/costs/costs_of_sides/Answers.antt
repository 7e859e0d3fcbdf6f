use Rattle.std.proofs.Common.{◌≡◌, Some, cond, rules}
use Rattle.nesl_eval_columns.proofs.Gathering.{three_so}
use Rattle.nesl_eval_column_results.specs.Costs.{costs_at}
use Rattle.nesl_eval_column_results.proofs.Costing.{costs_merged}
use Rattle.nesl_eval_column_results.proofs.costs.costs_of_sides.Goals as goal

pub returns : goal.returns
returns g c =
    let more = c.in_ok-more.more in
    let ps = costs_at c.args.yes.now in
    let qs = costs_at c.args.no.now in
    rw (← c.deref.ensures.value, ← c.deref-2.ensures.value) (costs_merged c.deref.result.now c.deref-2.result.now more ps qs (three_so _ (λ b i z. cond b (ps i) (qs i) ≡ Some z) (λ b i z e. search rules) c.deref.result.now c.deref-2.result.now more.items c.in_ok-more.ensures))
