use Rattle.std.proofs.Common.{drop}
use Rattle.std.proofs.lemmas.Result.{err_from_is_err_and}
use Rattle.nesl_eval_code.specs.Exec.{admitted, leaf_value}
use Rattle.nesl_eval_ops.specs.View.{what_is}
use Rattle.nesl_eval_nodes.specs.Meets.{Is}
use Rattle.nesl_eval_nodes.proofs.Runs.{meets_then, meets_err}
use Rattle.nesl_eval_rounds.specs.Slots.{places_of, Anything}
use Rattle.nesl_eval_rounds.proofs.leaves.enter_leaf.Goals as goal

pub returns-in_err-enter_at-clause-meets : goal.returns-in_err-enter_at-clause-meets
returns-in_err-enter_at-clause-meets g c =
    let s = c.args.sight.now in
    let l = c.args.leaf.now in
    let p = err_from_is_err_and c.from_residual.result c.from_residual.ensures.1 in
    rw (p.1, p.2) (meets_err {R = Unit {0}} {X = Unit {0}} Anything (Is {A = g.row.A.Denot}) c.args.meter.now c.enter_at.new.meter c.in_err-enter_at.field-0.0
    (admitted s.levels c.args.height l.span) (λ u. leaf_value (g.T.Tops.table s.tops.now) (drop s.base (places_of s.slots.now.items)) (what_is l.what)) (rw (← c.whole.ensures) c.in_err-enter_at.ensures.meets))

pub returns-clause-meets : goal.returns-clause-meets
returns-clause-meets g c =
    let s = c.args.sight.now in
    let l = c.args.leaf.now in
    meets_then {R = Unit {0}} {X = Unit {0}} Anything (Is {A = g.row.A.Denot}) c.args.meter.now c.enter_at.new.meter c.leaf_value.new.meter c.in_ok-enter_at.field-0 c.leaf_value.result
    (admitted s.levels c.args.height l.span) (λ u. leaf_value (g.T.Tops.table s.tops.now) (drop s.base (places_of s.slots.now.items)) (what_is l.what)) (rw (← c.whole.ensures) c.in_ok-enter_at.ensures.meets)
    (λ x e. c.leaf_value.ensures.meets)
