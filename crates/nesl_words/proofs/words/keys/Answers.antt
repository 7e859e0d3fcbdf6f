use Rattle.std.proofs.Common.{◌∙◌, ap, codes}
use Rattle.clap.specs.Simple.{new_shape, shape_of_fields}
use Rattle.nesl_words.specs.Rules.{out_rule, page_rule, renew_rule, users_rule}
use Rattle.nesl_words.specs.Shapes.{IsShaped}
use Rattle.nesl_words.proofs.words.keys.Goals as goal

pub returns : goal.returns
returns c =
    let is_named : IsShaped (new_shape (codes "keys")) c.after_help-named.result = (
      ap shape_of_fields c.after_help-named.ensures ∙ ap shape_of_fields c.about.ensures ∙ ap (λ app. app.top) c.new.ensures.app,
      ap (λ fields. fields.has_globals) c.after_help-named.ensures ∙ ap (λ fields. fields.has_globals) c.about.ensures ∙ c.new.ensures.local,
    ) in
    let has_out = c.with_option-with_out.ensures (new_shape (codes "keys")) out_rule c.out.ensures.rule is_named in
    let has_renew = c.with_option-with_renew.ensures _ renew_rule c.renew.ensures.rule has_out in
    let has_page = c.with_option-with_page.ensures _ page_rule c.page.ensures.rule has_renew in
    c.with_option.ensures _ users_rule c.user.ensures.rule has_page
