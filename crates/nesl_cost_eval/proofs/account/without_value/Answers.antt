use Rattle.std.proofs.Common.{refl, subst, Err, Global}
use Rattle.nesl_cost_rows.specs.Written.{notes_of}
use Rattle.nesl_cost_meaning.specs.Traced.{erase}
use Rattle.nesl_cost_eval.specs.declared.unfinished.Unfinished.{Unfinished}
use Rattle.nesl_cost_eval.specs.Writes.{Book, Halts}
use Rattle.nesl_cost_eval.proofs.Running.{IsOf}
use Rattle.nesl_cost_eval.proofs.Told.{begun, explained_fault, explained_over, explained_memory, agreed_fault, agreed_over}
use Rattle.nesl_cost_eval.proofs.account.without_value.Goals as goal

pub returns-in-Fault : goal.returns-in-Fault
returns-in-Fault c = λ f k t h.
    let q = c.in-Fault in
    let j = c.args.trace in
    let b : Book = record { notes = notes_of j; fuel = k } in
    let g = explained_fault q.trap q.span q.place j f k t (subst (λ (u : Unfinished). Halts (begun f) u b t) q.is h) in
    (g, agreed_fault q.trap q.span q.place j f t (erase t) refl g)

pub returns-in-Over : goal.returns-in-Over
returns-in-Over c = λ f k t h.
    let j = c.args.trace in
    let b : Book = record { notes = notes_of j; fuel = k } in
    let g = explained_over j f b t (subst (λ (u : Unfinished). Halts (begun f) u b t) c.in-Over.is h) in
    (g, agreed_over j f t (erase t) refl g)

pub returns-in-Memory : goal.returns-in-Memory
returns-in-Memory c = λ f k t h. (explained_memory f t, tt)

pub returns : goal.returns
returns c = λ f k t h. (explained_memory f t, tt)
