use Rattle.std.proofs.Common.{[], Ok, Err, subst}
use Rattle.nesl_syntax_tree.specs.Views.{tree_of}
use Rattle.nesl_eval_meaning.specs.Names.{Name, outside}
use Rattle.nesl_eval_meaning.specs.Out.{within}
use Rattle.nesl_eval_meaning.specs.Outcome.{out}
use Rattle.nesl_session_bindings.specs.Known.{environment}
use Rattle.nesl_session_meaning.specs.Finding.{Finding, budget, FindsOutcome, FindsVariable, evaluated}
use Rattle.nesl_session.specs.Found.{finding_of}
use Rattle.nesl_session.specs.Forms.{IsVariable}
use Rattle.nesl_session.proofs.Verdicts.{stopped_finds, stopped_charges, found_answers}
use Rattle.nesl_session.specs.Inside.{state_of}
use Rattle.nesl_session.proofs.form.find_variable.Goals as goal

pub returns-in-Ok-clause-found : goal.returns-in-Ok-clause-found
returns-in-Ok-clause-found g c =
    let s = state_of c.args.standing.now in
    let l = c.args.standing.now.limits in
    let x = c.args.name.items in
    let t = c.in-Ok.ty in
    let e = tree_of c.args.exp.now in
    let P : Name → Type 0 = λ y. IsVariable s.bindings y e (Ok c.in-Ok.ty) in
    let h = subst P c.as_slice.ensures.value c.in-Ok.ensures in
    let K : Finding → Type 0 = FindsOutcome l s x t (within (budget l s) (out 1000 (environment s.bindings) (outside []) e)) in
    found_answers (λ f. K (finding_of f)) (λ f. FindsVariable l s x e (finding_of f)) c.find_value.result
    (λ f k. evaluated h.0 h.1 k) c.find_value.ensures.found

pub returns-in-Err-clause-found : goal.returns-in-Err-clause-found
returns-in-Err-clause-found g c =
    let s = state_of c.args.standing.now in
    let l = c.args.standing.now.limits in
    let x = c.args.name.items in
    let e = tree_of c.args.exp.now in
    let P : Name → Type 0 = λ y. IsVariable s.bindings y e (Err c.in-Err.stopped) in
    found_answers _ _ c.found.result (λ f h. h s)
    (stopped_finds s.bindings (λ s. FindsVariable l s x e) c.in-Err.stopped c.found.result (subst P c.as_slice.ensures.value c.in-Err.ensures l) c.found.ensures)

pub returns-in-Err-clause-charges : goal.returns-in-Err-clause-charges
returns-in-Err-clause-charges g c =
    let s = state_of c.args.standing.now in
    found_answers _ _ c.found.result (λ f h. h s) (stopped_charges s.bindings c.in-Err.stopped c.found.result c.found.ensures)
