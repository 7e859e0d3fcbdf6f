use Rattle.std.proofs.Common.{◌∙◌, ap, codes}
use Rattle.clap.specs.Simple.{new_shape, shape_of_fields}
use Rattle.nesl_words.specs.Rules.{folder_rule, one_user_rule}
use Rattle.nesl_words.specs.Shapes.{IsShaped}
use Rattle.nesl_words.proofs.keep_words.check.Goals as goal

pub returns : goal.returns
returns c =
    let is_named : IsShaped (new_shape (codes "check")) c.after_help-named.result = (
      ap shape_of_fields c.after_help-named.ensures ∙ ap shape_of_fields c.about.ensures ∙ ap (λ app. app.top) c.new.ensures.app,
      ap (λ fields. fields.has_globals) c.after_help-named.ensures ∙ ap (λ fields. fields.has_globals) c.about.ensures ∙ c.new.ensures.local,
    ) in
    let has_folder = c.with_option-with_folder.ensures (new_shape (codes "check")) folder_rule c.folder.ensures.rule is_named in
    c.with_option.ensures _ one_user_rule c.one_user.ensures.rule has_folder
