use Rattle.std.proofs.Common.{◌∙◌, ap, sym, subst, Option, Some, None}
use Rattle.nesl_types.specs.declared.bindings.Top as kinds
use Rattle.nesl_eval_meaning.specs.Names.{Top}
use Rattle.nesl_eval_top_level.specs.declared.env.Payload.{Payload}
use Rattle.nesl_eval_top_level.specs.declared.env.Payload.TheVariants as payload
use Rattle.nesl_eval_top_level.specs.Stored.{top_of}
use Rattle.nesl_cost_eval.specs.Scopes.{Calls}
use Rattle.nesl_cost_eval.proofs.Binding.{found_meaning, none_meaning}
use Rattle.nesl_cost_eval.proofs.top.find_callee.Goals as goal

pub returns-in_err-top : goal.returns-in_err-top
returns-in_err-top c =
    rw c.from_residual.ensures
    (subst (λ (o : Option Top). Calls None o) (sym (none_meaning c.args.env.now c.args.name.now c.in_err-top.ensures)) tt)

pub returns-in-Variable : goal.returns-in-Variable
returns-in-Variable c =
    let t = c.in_ok-top.top.now in
    let is = found_meaning c.args.env.now c.args.name.now t _ c.in_ok-top.ensures ∙ ap (λ (p : Payload). Some (top_of t p)) c.in-Variable.is in
    subst (λ (o : Option Top). Calls None o) (sym is) tt

pub returns-in-Function : goal.returns-in-Function
returns-in-Function c =
    let t = c.in_ok-top.top.now in
    found_meaning c.args.env.now c.args.name.now t _ c.in_ok-top.ensures ∙ ap (λ (p : Payload). Some (top_of t p)) c.in-Function.is

pub returns-in-Datatype-top : goal.returns-in-Datatype-top
returns-in-Datatype-top c =
    let t = c.in_ok-top.top.now in
    found_meaning c.args.env.now c.args.name.now t _ c.in_ok-top.ensures ∙ ap (λ (p : Payload). Some (top_of t p)) c.in-Datatype.is
    ∙ ap (λ (u : kinds.Top). Some (top_of u payload.Datatype)) c.in-Datatype-top.is

pub returns-in-Variable-top : goal.returns-in-Variable-top
returns-in-Variable-top c =
    let t = c.in_ok-top.top.now in
    let is = found_meaning c.args.env.now c.args.name.now t _ c.in_ok-top.ensures ∙ ap (λ (p : Payload). Some (top_of t p)) c.in-Datatype.is
    ∙ ap (λ (u : kinds.Top). Some (top_of u payload.Datatype)) c.in-Variable-top.is in
    subst (λ (o : Option Top). Calls None o) (sym is) tt

pub returns-in-Function-top : goal.returns-in-Function-top
returns-in-Function-top c =
    let t = c.in_ok-top.top.now in
    let is = found_meaning c.args.env.now c.args.name.now t _ c.in_ok-top.ensures ∙ ap (λ (p : Payload). Some (top_of t p)) c.in-Datatype.is
    ∙ ap (λ (u : kinds.Top). Some (top_of u payload.Datatype)) c.in-Function-top.is in
    subst (λ (o : Option Top). Calls None o) (sym is) tt
