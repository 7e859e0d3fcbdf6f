use Rattle.std.proofs.Common.{◌≡◌, ◌-◌, arith, refl, sym, subst, Result, Global}
use Rattle.std.proofs.lemmas.Result.{err_from_is_err_and}
use Rattle.nesl_values.specs.declared.value.Value as code
use Rattle.nesl_eval_nodes.specs.Meets.{Is}
use Rattle.nesl_cost_meaning.specs.Traced.{charged}
use Rattle.nesl_cost_eval.specs.declared.unfinished.Unfinished.{Unfinished}
use Rattle.nesl_cost_eval.specs.Writes.{Writes, book}
use Rattle.nesl_cost_eval.proofs.Running.{IsOf, memory_any}
use Rattle.nesl_cost_eval.proofs.Charging.{since, settled_ok, settled_err}
use Rattle.nesl_cost_eval.proofs.run.Run.settle.Goals as goal

pub returns-in_err-note_spent-in-Ok : goal.returns-in_err-note_spent-in-Ok
returns-in_err-note_spent-in-Ok c = λ o h.
    let e = err_from_is_err_and c.from_residual.result c.from_residual.ensures.1 in
    let a = book c.args.self.now in
    let b = book c.note_spent.new.self in
    rw (e.1, e.2, c.in_err-note_spent-in-Ok.ensures) (memory_any (IsOf Global) (since a.notes c.args.before) b (charged c.args.span o))

pub returns-in_err-note_spent-in-Err : goal.returns-in_err-note_spent-in-Err
returns-in_err-note_spent-in-Err c = λ o h.
    let e = err_from_is_err_and c.from_residual-in_err-note_spent-in-Err.result c.from_residual-in_err-note_spent-in-Err.ensures.1 in
    let a = book c.args.self.now in
    let b = book c.note_spent-in-Err.new.self in
    rw (e.1, e.2, c.in_err-note_spent-in-Err.ensures) (memory_any (IsOf Global) (since a.notes c.args.before) b (charged c.args.span o))

pub returns-in_ok-note_spent-in-Ok : goal.returns-in_ok-note_spent-in-Ok
returns-in_ok-note_spent-in-Ok c = λ o h.
    let m = c.args.before in
    let n = c.args.self.now.meter in
    let a = book c.args.self.now in
    let b = book c.note_spent.new.self in
    let p : c.saturating_sub-work.result ≡ m.fuel - n.fuel = omega arith in
    let g : c.saturating_sub-depth.result ≡ n.depth - m.depth = omega arith in
    settled_ok c.args.span m n c.args.found c.in-Ok.value o a b c.saturating_sub-work.result c.saturating_sub-depth.result c.in-Ok.is p g refl c.in_ok-note_spent-in-Ok.ensures h

pub returns-in_ok-note_spent-in-Err : goal.returns-in_ok-note_spent-in-Err
returns-in_ok-note_spent-in-Err c = λ o h.
    let m = c.args.before in
    let n = c.args.self.now.meter in
    let a = book c.args.self.now in
    let b = book c.note_spent-in-Err.new.self in
    let p : c.saturating_sub-work.result ≡ m.fuel - n.fuel = omega arith in
    subst (λ (r : Result (code.Value Global) Unfinished). Writes Is (since a.notes m) r b (charged c.args.span o)) (sym c.halted.ensures)
    (settled_err c.args.span m n c.args.found c.in-Err.stop o a b c.saturating_sub-work.result c.in-Err.is p refl c.in_ok-note_spent-in-Err.ensures h)
