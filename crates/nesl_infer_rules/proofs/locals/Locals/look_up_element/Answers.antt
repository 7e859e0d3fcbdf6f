use Rattle.std.proofs.Common.{◌≡◌, ◌∙◌, ap, reverse}
use Rattle.std.specs.Prelude.{option_map}
use Rattle.nesl_infer_rules.specs.Newest.{newest_variable}
use Rattle.nesl_infer_rules.specs.Steps.{scope_at}
use Rattle.nesl_infer_rules.specs.Typing.{is_element, newest_type}
use Rattle.nesl_infer_rules.proofs.Newest.{newest-type, result-below}
use Rattle.nesl_infer_rules.proofs.locals.Locals.look_up_element.Goals as goal

pub returns-clause-found : goal.returns-clause-found
returns-clause-found c =
    let es = c.self.inside.list.items in
    let whole : c.newest_element.result ≡ newest_variable is_element (reverse es) =
    c.newest_element.ensures ∙ ap (λ fs. newest_variable is_element (reverse fs)) c.as_slice.ensures.value in
    λ s. ap (option_map s) whole ∙ newest-type s is_element es ∙ ap (λ ls. newest_type is_element (scope_at s ls)) c.self.view_is

pub returns-clause-below : goal.returns-clause-below
returns-clause-below c =
    let es = c.self.inside.list.items in
    result-below is_element es c.args.self.now c.newest_element.result (c.newest_element.ensures ∙ ap (λ fs. newest_variable is_element (reverse fs)) c.as_slice.ensures.value) c.self.view_is
