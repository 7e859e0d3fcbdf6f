use Rattle.std.proofs.Common.{sym, refl, subst, Option}
use Rattle.nesl_eval_code.specs.declared.layers.LocalPlace.{LocalPlace}
use Rattle.nesl_eval_code.specs.Means.{spot}
use Rattle.nesl_eval_code.specs.Resolving.{known, layers_of, FindsLocal}
use Rattle.nesl_eval_code.proofs.Nodes.{means_local, means_top, means_named}
use Rattle.nesl_eval_code.proofs.preparing.variable.Goals as goal

pub returns-in-Some : goal.returns-in-Some
returns-in-Some c =
    let ls = layers_of c.args.at.now.layers.now in
    let p = c.in-Some.field-0 in
    let F : Option LocalPlace → Type 0 = λ o. FindsLocal ls c.args.name.now o in
    means_local (known c.args.at.now.places.now) ls c.args.span c.args.name.now p.up p.index p.steps
    (spot p.up p.index p.steps.items) (subst F c.in-Some.is c.in_ok-up.ensures) refl refl refl

pub returns-in-Some-place_of : goal.returns-in-Some-place_of
returns-in-Some-place_of c =
    let ls = layers_of c.args.at.now.layers.now in
    let F : Option LocalPlace → Type 0 = λ o. FindsLocal ls c.args.name.now o in
    means_top (known c.args.at.now.places.now) ls c.args.span c.args.name.now c.in-Some-place_of.place (subst F c.in_default.is c.in_ok-up.ensures) (sym c.in-Some-place_of.ensures)

pub returns-in_ok-name-in-None : goal.returns-in_ok-name-in-None
returns-in_ok-name-in-None c =
    let ls = layers_of c.args.at.now.layers.now in
    let F : Option LocalPlace → Type 0 = λ o. FindsLocal ls c.args.name.now o in
    means_named (known c.args.at.now.places.now) ls c.args.span c.args.name.now c.in_ok-name-in-None.name c.in_ok-name-in-None.ensures.items (subst F c.in_default.is c.in_ok-up.ensures)
