use Rattle.std.proofs.Common.{◌∙◌, sym, ap, List}
use Rattle.std.specs.List.{sum_by}
use Rattle.std.proofs.lemmas.List.{take_all}
use Rattle.nesl_cost_rows.specs.declared.charge.Charge.{Charge}
use Rattle.nesl_cost_shown.proofs.Summed.{works_sum}
use Rattle.nesl_cost_shown.proofs.table.work_of.Goals as goal

pub returns : goal.returns
returns c =
    let rows = c.args.rows.now in
    c.loop-row.invariant ∙ ap (λ (xs : List Charge). sum_by (λ (x : Charge). x.work) xs) (take_all c.loop-row.row-index rows c.loop-row-test.false) ∙ sym (works_sum rows)
