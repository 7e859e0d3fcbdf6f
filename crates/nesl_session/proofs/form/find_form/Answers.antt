use Rattle.std.proofs.Common.{None, subst, sym}
use Rattle.std.specs.Prelude.{IfOk}
use Rattle.nesl_syntax_tree.specs.declared.tree.Form.{Form}
use Rattle.nesl_syntax_tree.specs.declared.tree.Form.TheVariants as forms
use Rattle.nesl_syntax_tree.specs.Views.{line_of, tree_of}
use Rattle.nesl_reply.specs.Replies as replies
use Rattle.nesl_reply.specs.Replies.{Report}
use Rattle.nesl_session_bindings.specs.Redefinition.{it}
use Rattle.nesl_session_meaning.specs.declared.limits.Limits.{Limits}
use Rattle.nesl_session_meaning.specs.State.{State}
use Rattle.nesl_session_meaning.specs.Finding.{answered, budget_report, FindsForm, FindsVariable, of_nothing, of_variable, of_expression, of_names, of_budget}
use Rattle.nesl_session.specs.Found.{finding_of, CanCharge}
use Rattle.nesl_session.specs.Forms.{with_names}
use Rattle.nesl_session.proofs.Verdicts.{found_answers}
use Rattle.nesl_session.specs.Inside.{state_of}
use Rattle.nesl_session.proofs.form.find_form.Goals as goal

pub returns-in-Nothing-clause-found : goal.returns-in-Nothing-clause-found
returns-in-Nothing-clause-found g c =
    let P : Form → Type 0 = λ y. FindsForm c.args.standing.now.limits (state_of c.args.standing.now) (line_of y) (answered replies.blank 0 None) in
    subst P (sym c.in-Nothing.is) of_nothing

pub returns-in-Bind-clause-found : goal.returns-in-Bind-clause-found
returns-in-Bind-clause-found g c =
    let s = state_of c.args.standing.now in
    let l = c.args.standing.now.limits in
    let form = forms.Bind c.in-Bind.name c.in-Bind.value in
    let P : Form → Type 0 = λ y. IfOk c.find_variable.result (λ f. FindsForm l s (line_of y) (finding_of f)) in
    subst P (sym c.in-Bind.is)
    (found_answers (λ f. FindsVariable l s c.in-Bind.name.items (tree_of c.in-Bind.value) (finding_of f)) (λ f. FindsForm l s (line_of form) (finding_of f)) c.find_variable.result (λ f h. of_variable h) c.find_variable.ensures.found)

pub returns-in-Eval-clause-found : goal.returns-in-Eval-clause-found
returns-in-Eval-clause-found g c =
    let s = state_of c.args.standing.now in
    let l = c.args.standing.now.limits in
    let form = forms.Eval c.in-Eval.exp in
    let P : Form → Type 0 = λ y. IfOk c.find_expression.result (λ f. FindsForm l s (line_of y) (finding_of f)) in
    subst P (sym c.in-Eval.is)
    (found_answers (λ f. FindsVariable l s it (tree_of c.in-Eval.exp) (finding_of f)) (λ f. FindsForm l s (line_of form) (finding_of f)) c.find_expression.result (λ f h. of_expression h) c.find_expression.ensures.found)

pub returns-in-ShowNames-clause-found : goal.returns-in-ShowNames-clause-found
returns-in-ShowNames-clause-found g c =
    let P : Form → Type 0 = λ y. FindsForm c.args.standing.now.limits (state_of c.args.standing.now) (line_of y) (answered replies.names 0 None) in
    subst P (sym c.in-ShowNames.is) of_names

pub returns-in-ShowBudget-clause-found : goal.returns-in-ShowBudget-clause-found
returns-in-ShowBudget-clause-found g c =
    let s = state_of c.args.standing.now in
    let l = c.args.standing.now.limits in
    let P : Form → Type 0 = λ y. FindsForm l s (line_of y) (answered (budget_report l s) 0 None) in
    let Q : Report → Type 0 = λ r. FindsForm l s (line_of c.args.form) (answered r 0 None) in
    subst Q (sym c.show_budget.ensures) (subst P (sym c.in-ShowBudget.is) of_budget)

pub returns-in-Fun-clause-found : goal.returns-in-Fun-clause-found
returns-in-Fun-clause-found g c =
    let s = state_of c.args.standing.now in
    let l = c.args.standing.now.limits in
    let form = forms.Fun c.in-Fun.name c.in-Fun.parameter c.in-Fun.signature c.in-Fun.body in
    let P : Form → Type 0 = λ y. IfOk c.find_function.result (λ f. FindsForm l s (line_of y) (finding_of f)) in
    subst P (sym c.in-Fun.is)
    (found_answers (λ f. (t : State) → FindsForm l (with_names s.bindings t) (line_of form) (finding_of f)) (λ f. FindsForm l s (line_of form) (finding_of f)) c.find_function.result (λ f h. h s) c.find_function.ensures.found)

pub returns-in-Fun-clause-charges : goal.returns-in-Fun-clause-charges
returns-in-Fun-clause-charges g c =
    let s = state_of c.args.standing.now in
    found_answers (λ f. (t : State) → CanCharge (with_names s.bindings t) f) (CanCharge s) c.find_function.result (λ f h. h s) c.find_function.ensures.charges

pub returns-in-Datatype-clause-found : goal.returns-in-Datatype-clause-found
returns-in-Datatype-clause-found g c =
    let s = state_of c.args.standing.now in
    let l = c.args.standing.now.limits in
    let form = forms.Datatype c.in-Datatype.name c.in-Datatype.content in
    let P : Form → Type 0 = λ y. IfOk c.find_datatype.result (λ f. FindsForm l s (line_of y) (finding_of f)) in
    subst P (sym c.in-Datatype.is)
    (found_answers (λ f. (t : State) → FindsForm l (with_names s.bindings t) (line_of form) (finding_of f)) (λ f. FindsForm l s (line_of form) (finding_of f)) c.find_datatype.result (λ f h. h s) c.find_datatype.ensures.found)

pub returns-in-Datatype-clause-charges : goal.returns-in-Datatype-clause-charges
returns-in-Datatype-clause-charges g c =
    let s = state_of c.args.standing.now in
    found_answers (λ f. (t : State) → CanCharge (with_names s.bindings t) f) (CanCharge s) c.find_datatype.result (λ f h. h s) c.find_datatype.ensures.charges

pub returns-in-ShowType-clause-found : goal.returns-in-ShowType-clause-found
returns-in-ShowType-clause-found g c =
    let s = state_of c.args.standing.now in
    let l = c.args.standing.now.limits in
    let form = forms.ShowType c.in-ShowType.exp in
    let P : Form → Type 0 = λ y. IfOk c.find_type.result (λ f. FindsForm l s (line_of y) (finding_of f)) in
    subst P (sym c.in-ShowType.is)
    (found_answers (λ f. (limits : Limits) (t : State) → FindsForm limits (with_names s.bindings t) (line_of form) (finding_of f)) (λ f. FindsForm l s (line_of form) (finding_of f)) c.find_type.result (λ f h. h l s) c.find_type.ensures.found)

pub returns-in-ShowType-clause-charges : goal.returns-in-ShowType-clause-charges
returns-in-ShowType-clause-charges g c =
    let s = state_of c.args.standing.now in
    found_answers (λ f. (t : State) → CanCharge (with_names s.bindings t) f) (CanCharge s) c.find_type.result (λ f h. h s) c.find_type.ensures.charges
