use Rattle.std.proofs.Common.{refl, subst, inl, inr, Some, Err, Global}
use Rattle.nesl_cost_eval.specs.declared.unfinished.Unfinished.{Unfinished}
use Rattle.nesl_cost_eval.specs.declared.unfinished.Unfinished.TheVariants.{Over, Memory, Stuck}
use Rattle.nesl_cost_eval.specs.Writes.{Writes, calling}
use Rattle.nesl_cost_eval.proofs.Running.{IsOf}
use Rattle.nesl_cost_eval.proofs.Charging.{called_fault, called_other, in_function}
use Rattle.nesl_cost_eval.proofs.unfinished.past_call.Goals as goal

pub returns-in-Fault : goal.returns-in-Fault
returns-in-Fault c = λ a b o h.
    let x = c.args.name.now in
    let s = c.args.span in
    let q = c.in-Fault.place in
    called_fault x s _ c.in-Fault.trap q (record { home = Some c.unwrap_or.result; span = q.span }) a b o (in_function q.home c.args.name c.unwrap_or.result q.span c.unwrap_or.ensures)
    (subst (λ (k : Unfinished). Writes (IsOf Global) (calling x s a) (Err k) b o) c.in-Fault.is h)

pub returns-in-Over : goal.returns-in-Over
returns-in-Over c = λ a b o h.
    let x = c.args.name.now in
    let s = c.args.span in
    called_other x s Over a b o (inl refl) (subst (λ (k : Unfinished). Writes (IsOf Global) (calling x s a) (Err k) b o) c.in-Over.is h)

pub returns-in-Memory : goal.returns-in-Memory
returns-in-Memory c = λ a b o h.
    let x = c.args.name.now in
    let s = c.args.span in
    called_other x s Memory a b o (inr (inl refl)) (subst (λ (k : Unfinished). Writes (IsOf Global) (calling x s a) (Err k) b o) c.in-Memory.is h)

pub returns-in-Stuck : goal.returns-in-Stuck
returns-in-Stuck c = λ a b o h.
    let x = c.args.name.now in
    let s = c.args.span in
    called_other x s Stuck a b o (inr (inr refl)) (subst (λ (k : Unfinished). Writes (IsOf Global) (calling x s a) (Err k) b o) c.in-Stuck.is h)
