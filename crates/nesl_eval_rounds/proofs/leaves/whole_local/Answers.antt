use Rattle.std.proofs.Common.{◌≤◌, ◌+◌, Err, subst, sym, ap, arith, length, [], Some, None}
use Rattle.std.specs.Prelude.{option_and_then}
use Rattle.nesl_values.specs.View.{tree_of}
use Rattle.nesl_eval_meaning.specs.Out.{value, given}
use Rattle.nesl_eval_code.specs.Frames.{followed}
use Rattle.nesl_eval_nodes.specs.declared.meter.Stop.TheVariants.{Stuck}
use Rattle.nesl_eval_nodes.specs.Meets.{Meets, Is}
use Rattle.nesl_eval_rounds.proofs.Found.{value_there, no_value, owned}
use Rattle.nesl_eval_rounds.proofs.leaves.whole_local.Goals as goal

pub returns-in-Some-lent_at : goal.returns-in-Some-lent_at
returns-in-Some-lent_at g c = λ m.
    let v = c.args.slots.now in
    let x = tree_of c.in-Some-lent_at.value.now in
    subst (λ o. Meets (Is {A = g.row.A.Denot}) m c.share_value.result m o)
    (ap (λ o. given (option_and_then (followed []) o) (λ y. value y 0 0)) (sym (value_there v.items c.args.base c.args.place c.in-Some.index (Some x) (omega (arith, c.in-Some.ensures)) c.in-Some-lent_at.ensures)))
    (owned m c.share_value.result x c.share_value.ensures)

pub returns-in-None-lent_at : goal.returns-in-None-lent_at
returns-in-None-lent_at g c = λ m.
    let v = c.args.slots.now in
    subst (λ o. Meets (Is {A = g.row.A.Denot}) m (Err Stuck) m o)
    (ap (λ o. given (option_and_then (followed []) o) (λ y. value y 0 0)) (sym (value_there v.items c.args.base c.args.place c.in-Some.index None (omega (arith, c.in-Some.ensures)) c.in-None-lent_at.ensures))) tt

pub returns-in-None : goal.returns-in-None
returns-in-None g c = λ m.
    let v = c.args.slots.now in
    let past : length v.items ≤ c.args.base + c.args.place = omega (arith, c.in-None.ensures, v.ok.0, v.ok.1, v.small) in
    subst (λ o. Meets (Is {A = g.row.A.Denot}) m (Err Stuck) m o) (ap (λ o. given (option_and_then (followed []) o) (λ y. value y 0 0)) (sym (no_value v.items c.args.base c.args.place past))) tt
