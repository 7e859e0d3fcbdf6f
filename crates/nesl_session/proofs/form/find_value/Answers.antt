use Rattle.std.proofs.Common.{◌≡◌, ap, sym, ◌∙◌, subst, true, leb, arith, []}
use Rattle.nesl_syntax_tree.specs.Views.{tree_of as tree_of_exp}
use Rattle.nesl_values.specs.View.{tree_of}
use Rattle.nesl_eval_meaning.specs.Names.{Value, outside}
use Rattle.nesl_eval_meaning.specs.Out.{fits_budget, value}
use Rattle.nesl_eval_meaning.specs.Outcome.{out}
use Rattle.nesl_eval_top_level.specs.Stored as code
use Rattle.nesl_session_bindings.specs.Known.{environment, put_binding}
use Rattle.nesl_session_bindings.specs.Meanings.{variable, elements_of}
use Rattle.nesl_session.specs.Inside.{state_of}
use Rattle.nesl_session_meaning.specs.Finding.{budget, refused, room, no_room}
use Rattle.nesl_eval.specs.declared.outcome.Outcome.TheVariants.{Done}
use Rattle.nesl_reply.specs.declared.fault.Fault.TheVariants as faults
use Rattle.nesl_session.proofs.Comes.{outcome_answered, comes_value, comes_fault, comes_over, budget_left, answer_fault, answer_over}
use Rattle.nesl_session.proofs.Rooms.{many_named, few_named, room_named}
use Rattle.nesl_session.proofs.form.find_value.Goals as goal

pub returns-then-not-fits_variable-clause-found : goal.returns-then-not-fits_variable-clause-found
returns-then-not-fits_variable-clause-found g c =
    let s = state_of c.args.standing.now in
    let l = c.args.standing.now.limits in
    let x = c.args.name.items in
    let t = c.args.ty in
    let o = out 1000 (environment s.bindings) (outside []) (tree_of_exp c.args.exp.now) in
    let h = outcome_answered (Done c.in-Done.value c.in-Done.work c.in-Done.depth) c.min-budget.result (budget c.args.standing.now.limits (state_of c.args.standing.now)) 1000 (code.environment c.environment.result.now) (environment (state_of c.args.standing.now).bindings) (tree_of_exp c.args.exp.now) c.min-budget.ensures c.environment.ensures c.in-Done.ensures (c.typed_never_stuck.ensures (tree_of_exp c.args.exp.now) c.args.ty c.requires.typed 1000) in
    comes_value l s x t o (tree_of c.in-Done.value) c.in-Done.work c.in-Done.depth _ h.0
    (no_room (many_named s l.elements c.as_slice.result.now x (variable t (tree_of c.in-Done.value)) c.as_slice.ensures.value (c.if-not-fits_variable.ensures t)))

pub returns-then-not-fits_variable-clause-charges : goal.returns-then-not-fits_variable-clause-charges
returns-then-not-fits_variable-clause-charges g c =
    let s = state_of c.args.standing.now in
    let l = c.args.standing.now.limits in
    let x = c.args.name.items in
    let t = c.args.ty in
    let o = out 1000 (environment s.bindings) (outside []) (tree_of_exp c.args.exp.now) in
    let h = outcome_answered (Done c.in-Done.value c.in-Done.work c.in-Done.depth) c.min-budget.result (budget c.args.standing.now.limits (state_of c.args.standing.now)) 1000 (code.environment c.environment.result.now) (environment (state_of c.args.standing.now).bindings) (tree_of_exp c.args.exp.now) c.min-budget.ensures c.environment.ensures c.in-Done.ensures (c.typed_never_stuck.ensures (tree_of_exp c.args.exp.now) c.args.ty c.requires.typed 1000) in
    omega (arith, h.2, budget_left l s)

pub returns-in_ok-kept-in-Done-clause-found : goal.returns-in_ok-kept-in-Done-clause-found
returns-in_ok-kept-in-Done-clause-found g c =
    let s = state_of c.args.standing.now in
    let l = c.args.standing.now.limits in
    let x = c.args.name.items in
    let t = c.args.ty in
    let o = out 1000 (environment s.bindings) (outside []) (tree_of_exp c.args.exp.now) in
    let h = outcome_answered (Done c.in-Done.value c.in-Done.work c.in-Done.depth) c.min-budget.result (budget c.args.standing.now.limits (state_of c.args.standing.now)) 1000 (code.environment c.environment.result.now) (environment (state_of c.args.standing.now).bindings) (tree_of_exp c.args.exp.now) c.min-budget.ensures c.environment.ensures c.in-Done.ensures (c.typed_never_stuck.ensures (tree_of_exp c.args.exp.now) c.args.ty c.requires.typed 1000) in
    let kept = c.in_ok-kept-in-Done.ensures in
    let P : Value → Type 0 = λ u. true ≡ leb (elements_of (put_binding c.as_slice.result.now (variable t u) s.bindings)) l.elements in
    comes_value l s x t o (tree_of c.in_ok-kept-in-Done.kept) c.in-Done.work c.in-Done.depth _ (h.0 ∙ ap (λ u. fits_budget (value u c.in-Done.work c.in-Done.depth)) (sym kept))
    (room (few_named s l.elements c.as_slice.result.now x (variable t (tree_of c.in_ok-kept-in-Done.kept)) c.as_slice.ensures.value (subst P (sym kept) (c.if-not-fits_variable.ensures t))))

pub returns-in_ok-kept-in-Done-clause-charges : goal.returns-in_ok-kept-in-Done-clause-charges
returns-in_ok-kept-in-Done-clause-charges g c =
    let s = state_of c.args.standing.now in
    let l = c.args.standing.now.limits in
    let x = c.args.name.items in
    let t = c.args.ty in
    let o = out 1000 (environment s.bindings) (outside []) (tree_of_exp c.args.exp.now) in
    let h = outcome_answered (Done c.in-Done.value c.in-Done.work c.in-Done.depth) c.min-budget.result (budget c.args.standing.now.limits (state_of c.args.standing.now)) 1000 (code.environment c.environment.result.now) (environment (state_of c.args.standing.now).bindings) (tree_of_exp c.args.exp.now) c.min-budget.ensures c.environment.ensures c.in-Done.ensures (c.typed_never_stuck.ensures (tree_of_exp c.args.exp.now) c.args.ty c.requires.typed 1000) in
    let kept = c.in_ok-kept-in-Done.ensures in
    let P : Value → Type 0 = λ u. true ≡ leb (elements_of (put_binding c.as_slice.result.now (variable t u) s.bindings)) l.elements in (
      omega (arith, h.2, budget_left l s),
      (
        (tree_of_exp c.args.exp.now, 1000, c.in-Done.work, c.in-Done.depth, c.requires.typed, h.1 ∙ ap (λ u. value u c.in-Done.work c.in-Done.depth) (sym kept)),
        c.requires.free,
        room_named s l.elements c.as_slice.result.now x (variable t (tree_of c.in_ok-kept-in-Done.kept)) (omega arith) c.as_slice.ensures.value (subst P (sym kept) (c.if-not-fits_variable.ensures t)),
      ),
    )

pub returns-in-Fault-clause-found : goal.returns-in-Fault-clause-found
returns-in-Fault-clause-found g c =
    let s = state_of c.args.standing.now in
    let l = c.args.standing.now.limits in
    let x = c.args.name.items in
    let t = c.args.ty in
    let o = out 1000 (environment s.bindings) (outside []) (tree_of_exp c.args.exp.now) in
    let r = outcome_answered c.evaluate.result c.min-budget.result (budget c.args.standing.now.limits (state_of c.args.standing.now)) 1000 (code.environment c.environment.result.now) (environment (state_of c.args.standing.now).bindings) (tree_of_exp c.args.exp.now) c.min-budget.ensures c.environment.ensures c.evaluate.ensures (c.typed_never_stuck.ensures (tree_of_exp c.args.exp.now) c.args.ty c.requires.typed 1000) in
    let h = answer_fault c.evaluate.result c.in-Fault.trap c.in-Fault.span c.in-Fault.work (budget l s) o c.in-Fault.is r in
    comes_fault l s x t o c.in-Fault.trap c.in-Fault.span c.in-Fault.work _ h.0 (ap (λ k. refused k c.in-Fault.work) c.of_trap-fault.ensures)

pub returns-in-Fault-clause-charges : goal.returns-in-Fault-clause-charges
returns-in-Fault-clause-charges g c =
    let s = state_of c.args.standing.now in
    let l = c.args.standing.now.limits in
    let x = c.args.name.items in
    let t = c.args.ty in
    let o = out 1000 (environment s.bindings) (outside []) (tree_of_exp c.args.exp.now) in
    let r = outcome_answered c.evaluate.result c.min-budget.result (budget c.args.standing.now.limits (state_of c.args.standing.now)) 1000 (code.environment c.environment.result.now) (environment (state_of c.args.standing.now).bindings) (tree_of_exp c.args.exp.now) c.min-budget.ensures c.environment.ensures c.evaluate.ensures (c.typed_never_stuck.ensures (tree_of_exp c.args.exp.now) c.args.ty c.requires.typed 1000) in
    let h = answer_fault c.evaluate.result c.in-Fault.trap c.in-Fault.span c.in-Fault.work (budget l s) o c.in-Fault.is r in
    omega (arith, h.1, budget_left l s)

pub returns-in-Over-clause-found : goal.returns-in-Over-clause-found
returns-in-Over-clause-found g c =
    let s = state_of c.args.standing.now in
    let l = c.args.standing.now.limits in
    let x = c.args.name.items in
    let t = c.args.ty in
    let o = out 1000 (environment s.bindings) (outside []) (tree_of_exp c.args.exp.now) in
    let r = outcome_answered c.evaluate.result c.min-budget.result (budget c.args.standing.now.limits (state_of c.args.standing.now)) 1000 (code.environment c.environment.result.now) (environment (state_of c.args.standing.now).bindings) (tree_of_exp c.args.exp.now) c.min-budget.ensures c.environment.ensures c.evaluate.ensures (c.typed_never_stuck.ensures (tree_of_exp c.args.exp.now) c.args.ty c.requires.typed 1000) in
    let h = answer_over c.evaluate.result (budget l s) o c.in-Over.is r in
    let b : c.min-budget.result ≡ budget l s = c.min-budget.ensures in
    comes_over l s x t o _ h (ap (λ k. refused (faults.Work k) k) b)
