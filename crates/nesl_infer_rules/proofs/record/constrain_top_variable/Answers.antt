use Rattle.std.proofs.Common.{ℕ, Some, None, sym, ap, subst, ◌∙◌}
use Rattle.nesl_types.specs.declared.bindings.Top.{Top}
use Rattle.nesl_types_shared.specs.Term.{Term}
use Rattle.nesl_infer_names.specs.Names.{as_variable}
use Rattle.nesl_infer_rules.specs.Contexts.{IsClosed}
use Rattle.nesl_infer_rules.specs.World.{TypedNames, meanings_in}
use Rattle.nesl_infer_rules.specs.Steps.{own_at}
use Rattle.nesl_infer_rules.proofs.Applied.{hidden_means, variable_means, is_variable, no_variable}
use Rattle.nesl_infer_rules.proofs.record.constrain_top_variable.Goals as goal

pub returns-then-is_hidden : goal.returns-then-is_hidden
returns-then-is_hidden g c =
    let N : (ℕ → Term) → TypedNames = λ s. meanings_in c.args.outer.now.context.now (own_at s c.args.outer.now.own) in
    no_variable N c.args.name.now c.args.target (λ s. hidden_means c.args.outer.now.context.now c.args.outer.now.own c.args.name.now s (sym (c.is_hidden.ensures s) ∙ c.if-is_hidden.true)) c.in_ok-add_contradiction.ensures

pub equate_closed-requires-clause-ty : goal.equate_closed-requires-clause-ty
equate_closed-requires-clause-ty g c =
    let d = c.in-Some-Variable-default in
    subst (λ (t : Top). IsClosed t) d.field-0-0-is (c.args.outer.now.closed c.args.name.now d.field-0-0.now d.field-0-1.now (sym d.ensures))

pub returns-in_ok-equate_closed-in-Some-Variable-default : goal.returns-in_ok-equate_closed-in-Some-Variable-default
returns-in_ok-equate_closed-in-Some-Variable-default g c =
    let context = c.args.outer.now.context.now in
    let own = c.args.outer.now.own in
    let x = c.args.name.now in
    let N : (ℕ → Term) → TypedNames = λ s. meanings_in context (own_at s own) in
    let d = c.in-Some-Variable-default in
    is_variable N x d.ty c.args.target
    (λ s. variable_means context own x s (Some (d.field-0-0.now, d.field-0-1.now)) (sym (c.is_hidden.ensures s) ∙ c.if-is_hidden.false) d.ensures ∙ ap (λ (t : Top). as_variable (Some t)) d.field-0-0-is)
    c.in_ok-equate_closed-in-Some-Variable-default.ensures

pub returns-in_ok-add_contradiction-in-Some-Function-default : goal.returns-in_ok-add_contradiction-in-Some-Function-default
returns-in_ok-add_contradiction-in-Some-Function-default g c =
    let context = c.args.outer.now.context.now in
    let own = c.args.outer.now.own in
    let x = c.args.name.now in
    let N : (ℕ → Term) → TypedNames = λ s. meanings_in context (own_at s own) in
    let d = c.in-Some-Function-default in
    no_variable N x c.args.target
    (λ s. variable_means context own x s (Some (d.field-0-0.now, d.field-0-1.now)) (sym (c.is_hidden.ensures s) ∙ c.if-is_hidden.false) d.ensures ∙ ap (λ (t : Top). as_variable (Some t)) d.field-0-0-is)
    c.in_ok-add_contradiction-in-Some-Function-default.ensures

pub returns-in_ok-add_contradiction-in-Some-Datatype-default : goal.returns-in_ok-add_contradiction-in-Some-Datatype-default
returns-in_ok-add_contradiction-in-Some-Datatype-default g c =
    let context = c.args.outer.now.context.now in
    let own = c.args.outer.now.own in
    let x = c.args.name.now in
    let N : (ℕ → Term) → TypedNames = λ s. meanings_in context (own_at s own) in
    let d = c.in-Some-Datatype-default in
    no_variable N x c.args.target
    (λ s. variable_means context own x s (Some (d.field-0-0.now, d.field-0-1.now)) (sym (c.is_hidden.ensures s) ∙ c.if-is_hidden.false) d.ensures ∙ ap (λ (t : Top). as_variable (Some t)) d.field-0-0-is)
    c.in_ok-add_contradiction-in-Some-Datatype-default.ensures

pub returns-in_ok-add_contradiction-in-None : goal.returns-in_ok-add_contradiction-in-None
returns-in_ok-add_contradiction-in-None g c =
    let context = c.args.outer.now.context.now in
    let own = c.args.outer.now.own in
    let x = c.args.name.now in
    let N : (ℕ → Term) → TypedNames = λ s. meanings_in context (own_at s own) in
    no_variable N x c.args.target
    (λ s. variable_means context own x s None (sym (c.is_hidden.ensures s) ∙ c.if-is_hidden.false) c.in-None.ensures)
    c.in_ok-add_contradiction-in-None.ensures
