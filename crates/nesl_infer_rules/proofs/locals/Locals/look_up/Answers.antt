use Rattle.std.proofs.Common.{◌≡◌, ◌∙◌, Some, None, ap, sym, subst, reverse, take}
use Rattle.std.specs.Prelude.{option_map}
use Rattle.nesl_infer_rules.specs.Newest.{mapped, newest_variable}
use Rattle.nesl_infer_rules.specs.Steps.{scope_at, AreLocalsBelow}
use Rattle.nesl_infer_rules.specs.Typing.{is_name, local_type}
use Rattle.nesl_infer_rules.proofs.Newest.{newest-below, newest-few, newest-split, newest-type, result-below}
use Rattle.nesl_infer_rules.proofs.locals.Locals.look_up.Goals as goal

pub returns-in-Some-clause-found : goal.returns-in-Some-clause-found
returns-in-Some-clause-found c =
    let es = c.self.inside.list.items in
    let x = c.args.name.now in
    let v = c.in-Some.variable in
    let there : newest_variable (is_name x) (mapped es) ≡ Some v = sym (c.self.invariant.0 x) ∙ sym c.noted.ensures ∙ c.in-Some.is in
    λ s. ap (option_map s) (sym (newest-split (is_name x) es v there)) ∙ newest-type s (is_name x) es ∙ ap (λ ls. local_type x (scope_at s ls)) c.self.view_is

pub returns-in-Some-clause-below : goal.returns-in-Some-clause-below
returns-in-Some-clause-below c =
    let es = c.self.inside.list.items in
    let x = c.args.name.now in
    let v = c.in-Some.variable in
    let there : newest_variable (is_name x) (mapped es) ≡ Some v = sym (c.self.invariant.0 x) ∙ sym c.noted.ensures ∙ c.in-Some.is in
    λ n b. newest-below (is_name x) n v es (newest-split (is_name x) es v there) (subst (AreLocalsBelow n) (sym c.self.view_is) b)

pub returns-in-None-clause-found : goal.returns-in-None-clause-found
returns-in-None-clause-found c =
    let es = c.self.inside.list.items in
    let x = c.args.name.now in
    let none : newest_variable (is_name x) (mapped es) ≡ None = sym (c.self.invariant.0 x) ∙ sym c.noted.ensures ∙ c.in-None.is in
    let whole : c.look_up_few.result ≡ newest_variable (is_name x) (reverse es) =
    c.look_up_few.ensures ∙ ap (λ fs. newest_variable (is_name x) (reverse (take 8 fs))) c.as_slice.ensures.value ∙ sym (newest-few (is_name x) es none) in
    λ s. ap (option_map s) whole ∙ newest-type s (is_name x) es ∙ ap (λ ls. local_type x (scope_at s ls)) c.self.view_is

pub returns-in-None-clause-below : goal.returns-in-None-clause-below
returns-in-None-clause-below c =
    let es = c.self.inside.list.items in
    let x = c.args.name.now in
    let none : newest_variable (is_name x) (mapped es) ≡ None = sym (c.self.invariant.0 x) ∙ sym c.noted.ensures ∙ c.in-None.is in
    let whole : c.look_up_few.result ≡ newest_variable (is_name x) (reverse es) =
    c.look_up_few.ensures ∙ ap (λ fs. newest_variable (is_name x) (reverse (take 8 fs))) c.as_slice.ensures.value ∙ sym (newest-few (is_name x) es none) in
    result-below (is_name x) es c.args.self.now c.look_up_few.result whole c.self.view_is
