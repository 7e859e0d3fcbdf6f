use Rattle.std.proofs.Common.{◌∙◌, ap, map, List}
use Rattle.nesl_cost_rows.specs.declared.charge.Charge.{Charge}
use Rattle.nesl_cost_rows.specs.Charges.{charge_of}
use Rattle.nesl_cost_rows.specs.Readings.{charges_in}
use Rattle.nesl_cost_shown.specs.Tables.{work_at, depth_at}
use Rattle.nesl_cost_shown.proofs.Summed.{ordered_work, ordered_depth, apart_work, apart_depth}
use Rattle.nesl_cost_shown.proofs.table.table_of.Goals as goal

pub returns-clause-work : goal.returns-clause-work
returns-clause-work c =
    λ p.
    c.in_ok-rows.ensures.work p ∙ ap (λ (xs : List Charge). work_at p (map charge_of xs)) c.as_slice.ensures.value
    ∙ ordered_work p c.in_ok-pieces.pieces.items c.sort.new.pieces.items c.sort.ensures
    ∙ apart_work p (map charge_of c.args.charges.now.all.items) (charges_in c.args.charges.now.path) (map charge_of c.in_ok-pieces.pieces.items) c.in_ok-pieces.ensures

pub returns-clause-depth : goal.returns-clause-depth
returns-clause-depth c =
    λ p.
    c.in_ok-rows.ensures.depth p ∙ ap (λ (xs : List Charge). depth_at p (map charge_of xs)) c.as_slice.ensures.value
    ∙ ordered_depth p c.in_ok-pieces.pieces.items c.sort.new.pieces.items c.sort.ensures
    ∙ apart_depth p (map charge_of c.args.charges.now.all.items) (charges_in c.args.charges.now.path) (map charge_of c.in_ok-pieces.pieces.items) c.in_ok-pieces.ensures
