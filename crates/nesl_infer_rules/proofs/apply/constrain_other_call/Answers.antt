use Rattle.std.proofs.Common.{ℕ, Some, None, sym, ap, subst, ◌∙◌}
use Rattle.nesl_types.specs.declared.bindings.Top.{Top}
use Rattle.nesl_infer_rules.specs.Contexts.{IsClosed}
use Rattle.nesl_types_shared.specs.Term.{Term, named}
use Rattle.nesl_builtins.specs.FunctionTypes.{function_type, builtin_type}
use Rattle.nesl_infer_names.specs.Names.{as_function}
use Rattle.nesl_infer_rules.specs.World.{TypedNames, callable_of, meanings_in}
use Rattle.nesl_infer_rules.specs.Steps.{own_at}
use Rattle.nesl_infer_rules.proofs.Applied.{applied_general, applied_single, applied_none, built_in_means, top_means}
use Rattle.nesl_infer_rules.proofs.apply.constrain_other_call.Goals as goal

pub returns-in-Some : goal.returns-in-Some
returns-in-Some g c =
    let context = c.args.outer.now.context.now in
    let own = c.args.outer.now.own in
    let N : (ℕ → Term) → TypedNames = λ s. meanings_in context (own_at s own) in
    let b = c.in-Some.builtin in
    let found = c.in-Some.ensures in
    applied_general N c.args.name.now (builtin_type b) c.args.given c.args.target (λ s. built_in_means context own c.args.name.now b s c.requires.other found)
    c.in_ok-constrain_builtin.ensures

pub equate_closed-requires-clause-ty : goal.equate_closed-requires-clause-ty
equate_closed-requires-clause-ty g c =
    let d = c.in-Some-Datatype-default in
    let closed = c.args.outer.now.closed c.args.name.now d.field-0-0.now d.field-0-1.now (sym d.ensures) in
    subst (λ (t : Top). IsClosed t) d.field-0-0-is closed

pub returns-in_ok-function_instance-in-Some-Function-default : goal.returns-in_ok-function_instance-in-Some-Function-default
returns-in_ok-function_instance-in-Some-Function-default g c =
    let context = c.args.outer.now.context.now in
    let own = c.args.outer.now.own in
    let x = c.args.name.now in
    let N : (ℕ → Term) → TypedNames = λ s. meanings_in context (own_at s own) in
    let none = c.in_default.ensures in
    let d = c.in-Some-Function-default in
    applied_general N x (function_type d.scheme) c.args.given c.args.target
    (λ s. top_means context own x s (Some (d.field-0-0.now, d.field-0-1.now)) c.requires.other none d.ensures ∙ ap (λ (t : Top). callable_of (own_at s own) (as_function (Some t))) d.field-0-0-is)
    c.in_ok-function_instance-in-Some-Function-default.ensures

pub returns-in_ok-equate_flat-in-Some-Datatype-default : goal.returns-in_ok-equate_flat-in-Some-Datatype-default
returns-in_ok-equate_flat-in-Some-Datatype-default g c =
    let context = c.args.outer.now.context.now in
    let own = c.args.outer.now.own in
    let x = c.args.name.now in
    let N : (ℕ → Term) → TypedNames = λ s. meanings_in context (own_at s own) in
    let none = c.in_default.ensures in
    let d = c.in-Some-Datatype-default in
    applied_single N x (λ s. d.held) (λ s. named d.tag) c.args.given c.args.target c.requires.target (λ s z a i. named d.tag)
    (λ s. top_means context own x s (Some (d.field-0-0.now, d.field-0-1.now)) c.requires.other none d.ensures ∙ ap (λ (t : Top). callable_of (own_at s own) (as_function (Some t))) d.field-0-0-is)
    c.in_ok-equate_closed-in-Some-Datatype-default.ensures
    c.in_ok-equate_flat-in-Some-Datatype-default.ensures

pub returns-in_ok-add_contradiction-in-Some-Variable-default : goal.returns-in_ok-add_contradiction-in-Some-Variable-default
returns-in_ok-add_contradiction-in-Some-Variable-default g c =
    let context = c.args.outer.now.context.now in
    let own = c.args.outer.now.own in
    let x = c.args.name.now in
    let N : (ℕ → Term) → TypedNames = λ s. meanings_in context (own_at s own) in
    let none = c.in_default.ensures in
    let d = c.in-Some-Variable-default in
    applied_none N x c.args.given c.args.target
    (λ s. top_means context own x s (Some (d.field-0-0.now, d.field-0-1.now)) c.requires.other none d.ensures ∙ ap (λ (t : Top). callable_of (own_at s own) (as_function (Some t))) d.field-0-0-is)
    c.in_ok-add_contradiction-in-Some-Variable-default.ensures

pub returns-in_ok-add_contradiction-in-None : goal.returns-in_ok-add_contradiction-in-None
returns-in_ok-add_contradiction-in-None g c =
    let context = c.args.outer.now.context.now in
    let own = c.args.outer.now.own in
    let x = c.args.name.now in
    let N : (ℕ → Term) → TypedNames = λ s. meanings_in context (own_at s own) in
    let none = c.in_default.ensures in
    applied_none N x c.args.given c.args.target (λ s. top_means context own x s None c.requires.other none c.in-None.ensures) c.in_ok-add_contradiction-in-None.ensures
