use Rattle.std.proofs.Common.{◌∙◌, [], ◌∷◌, ap, subst, Option}
use Rattle.nesl_syntax_tree.specs.Views.{pattern_tree}
use Rattle.nesl_eval_code.specs.declared.layers.LocalPlace.{LocalPlace}
use Rattle.nesl_eval_code.specs.declared.names.NamePlace.{NamePlace}
use Rattle.nesl_eval_code.specs.Means.{bindings, binders}
use Rattle.nesl_eval_code.specs.Frame.{FindsIn, patterns_before}
use Rattle.nesl_eval_code.specs.Resolving.{layers_of, FindsLocal}
use Rattle.nesl_eval_code.proofs.Resolved.{layers-Parameter, layers-Let, layers-Row, found_in, found_out, found_none, found_no_parameter}
use Rattle.nesl_eval_code.proofs.layers.+place_of_local.Goals as goal

pub returns-in-Some : goal.returns-in-Some
returns-in-Some t c =
    let x = c.args.name.now in
    let p = pattern_tree c.in-Parameter.parameter.now.pattern.now in
    let F : Option NamePlace → Type 0 = λ o. FindsIn (p ∷ []) x o in
    let e = c.in_newest.ensures in
    found_in (layers_of c.args.layers.now) (bindings (p ∷ [])) [] x c.in-Some.place c.in_newest.result
    (ap layers_of c.in-Parameter.is ∙ layers-Parameter c.in-Parameter.parameter) (subst F c.in-Some.is c.in_ok-place-in-Parameter.ensures) e.up e.index e.steps

pub returns-in-None : goal.returns-in-None
returns-in-None t c =
    let x = c.args.name.now in
    let p = pattern_tree c.in-Parameter.parameter.now.pattern.now in
    let F : Option NamePlace → Type 0 = λ o. FindsIn (p ∷ []) x o in
    found_no_parameter (layers_of c.args.layers.now) p x (ap layers_of c.in-Parameter.is ∙ layers-Parameter c.in-Parameter.parameter) (subst F c.in-None.is c.in_ok-place-in-Parameter.ensures)

pub returns-in-Some-2 : goal.returns-in-Some-2
returns-in-Some-2 t c =
    let x = c.args.name.now in
    let f = c.in-Let.frame.now in
    let ps = patterns_before f.bound.now f.seen in
    let F : Option NamePlace → Type 0 = λ o. FindsIn ps x o in
    let e = c.in_newest-in-Some-2.ensures in
    found_in (layers_of c.args.layers.now) (bindings ps) (layers_of c.in-Let.outer.now) x c.in-Some-2.place c.in_newest-in-Some-2.result
    (ap layers_of c.in-Let.is ∙ layers-Let c.in-Let.frame c.in-Let.outer) (subst F c.in-Some-2.is c.in_ok-place-in-Let.ensures) e.up e.index e.steps

pub returns-in_ok-one_up-in-Some-3 : goal.returns-in_ok-one_up-in-Some-3
returns-in_ok-one_up-in-Some-3 t c =
    let x = c.args.name.now in
    let f = c.in-Let.frame.now in
    let ps = patterns_before f.bound.now f.seen in
    let F : Option NamePlace → Type 0 = λ o. FindsIn ps x o in
    let G : Option LocalPlace → Type 0 = λ o. FindsLocal (layers_of c.in-Let.outer.now) x o in
    let e = c.in_ok-one_up-in-Some-3.ensures in
    found_out (layers_of c.args.layers.now) (bindings ps) (layers_of c.in-Let.outer.now) x c.in-Some-3.place c.in_ok-one_up-in-Some-3.field-0
    (ap layers_of c.in-Let.is ∙ layers-Let c.in-Let.frame c.in-Let.outer) (subst F c.in-None-2.is c.in_ok-place-in-Let.ensures)
    (subst G c.in-Some-3.is c.in_ok-place-in-None-2.ensures) e.up e.index e.steps

pub returns-in-None-3 : goal.returns-in-None-3
returns-in-None-3 t c =
    let x = c.args.name.now in
    let f = c.in-Let.frame.now in
    let ps = patterns_before f.bound.now f.seen in
    let F : Option NamePlace → Type 0 = λ o. FindsIn ps x o in
    let G : Option LocalPlace → Type 0 = λ o. FindsLocal (layers_of c.in-Let.outer.now) x o in
    found_none (layers_of c.args.layers.now) (bindings ps) (layers_of c.in-Let.outer.now) x
    (ap layers_of c.in-Let.is ∙ layers-Let c.in-Let.frame c.in-Let.outer) (subst F c.in-None-2.is c.in_ok-place-in-Let.ensures)
    (subst G c.in-None-3.is c.in_ok-place-in-None-2.ensures)

pub returns-in-Some-4 : goal.returns-in-Some-4
returns-in-Some-4 t c =
    let x = c.args.name.now in
    let f = c.in-Row.frame.now in
    let ps = patterns_before f.bound.now f.seen in
    let F : Option NamePlace → Type 0 = λ o. FindsIn ps x o in
    let e = c.in_newest-in-Some-4.ensures in
    found_in (layers_of c.args.layers.now) (binders ps) (layers_of c.in-Row.outer.now) x c.in-Some-4.place c.in_newest-in-Some-4.result
    (ap layers_of c.in-Row.is ∙ layers-Row c.in-Row.frame c.in-Row.outer) (subst F c.in-Some-4.is c.in_ok-place-in-Row.ensures) e.up e.index e.steps

pub returns-in_ok-one_up-in-Some-5 : goal.returns-in_ok-one_up-in-Some-5
returns-in_ok-one_up-in-Some-5 t c =
    let x = c.args.name.now in
    let f = c.in-Row.frame.now in
    let ps = patterns_before f.bound.now f.seen in
    let F : Option NamePlace → Type 0 = λ o. FindsIn ps x o in
    let G : Option LocalPlace → Type 0 = λ o. FindsLocal (layers_of c.in-Row.outer.now) x o in
    let e = c.in_ok-one_up-in-Some-5.ensures in
    found_out (layers_of c.args.layers.now) (binders ps) (layers_of c.in-Row.outer.now) x c.in-Some-5.place c.in_ok-one_up-in-Some-5.field-0
    (ap layers_of c.in-Row.is ∙ layers-Row c.in-Row.frame c.in-Row.outer) (subst F c.in-None-4.is c.in_ok-place-in-Row.ensures)
    (subst G c.in-Some-5.is c.in_ok-place-in-None-4.ensures) e.up e.index e.steps

pub returns-in-None-5 : goal.returns-in-None-5
returns-in-None-5 t c =
    let x = c.args.name.now in
    let f = c.in-Row.frame.now in
    let ps = patterns_before f.bound.now f.seen in
    let F : Option NamePlace → Type 0 = λ o. FindsIn ps x o in
    let G : Option LocalPlace → Type 0 = λ o. FindsLocal (layers_of c.in-Row.outer.now) x o in
    found_none (layers_of c.args.layers.now) (binders ps) (layers_of c.in-Row.outer.now) x
    (ap layers_of c.in-Row.is ∙ layers-Row c.in-Row.frame c.in-Row.outer) (subst F c.in-None-4.is c.in_ok-place-in-Row.ensures)
    (subst G c.in-None-5.is c.in_ok-place-in-None-4.ensures)
