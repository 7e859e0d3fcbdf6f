use Rattle.std.proofs.Common.{ℕ, List, [], suc, subst, sym, ◌∙◌}
use Rattle.nesl_eval_code.specs.Means.{Layer, spot, IsElementSpot}
use Rattle.nesl_eval_code.specs.Frame.{patterns_before}
use Rattle.nesl_eval_code.specs.Resolving.{layers_of}
use Rattle.nesl_eval_code.proofs.Locals.{element_here, element_outside}
use Rattle.nesl_eval_code.proofs.Resolved.{layers-Let, layers-Row, if_ok}
use Rattle.std.proofs.Common.{ap}
use Rattle.nesl_eval_code.proofs.layers.+element_up.Goals as goal

pub returns-in_ok-element_up-in-Let : goal.returns-in_ok-element_up-in-Let
returns-in_ok-element_up-in-Let t c =
    let f = c.in-Let.field-0.now in
    let ps = patterns_before f.bound.now f.seen in
    let F : List Layer → Type 0 = λ y. IsElementSpot y (spot (suc c.in_ok-element_up-in-Let.field-0) 0 []) in
    let up = element_outside ps (layers_of c.in-Let.outer.now) (spot c.in_ok-element_up-in-Let.field-0 0 []) c.in_ok-element_up-in-Let.ensures in
    let here = subst F (sym (ap layers_of c.in-Let.is ∙ layers-Let c.in-Let.field-0 c.in-Let.outer)) up in
    let G : ℕ → Type 0 = λ k. IsElementSpot (layers_of c.args.layers.now) (spot k 0 []) in
    if_ok c.next.result c.next.ensures (λ r e. subst G (sym e) here)

pub returns-in-Row : goal.returns-in-Row
returns-in-Row t c =
    let F : List Layer → Type 0 = λ y. IsElementSpot y (spot 0 0 []) in
    subst F (sym (ap layers_of c.in-Row.is ∙ layers-Row c.in-Row.field-0 c.in-Row.field-1)) (element_here (patterns_before c.in-Row.field-0.now.bound.now c.in-Row.field-0.now.seen) (layers_of c.in-Row.field-1.now))
