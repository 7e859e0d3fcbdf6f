use Rattle.std.proofs.Common.{◌∙◌, ap, codes}
use Rattle.clap.specs.Simple.{new_shape, shape_of_fields}
use Rattle.nesl_words.specs.Rules.{files_rule, hints_rule}
use Rattle.nesl_words.specs.Shapes.{IsShaped}
use Rattle.nesl_words.proofs.words.repl.Goals as goal

pub returns : goal.returns
returns c =
    let is_named : IsShaped (new_shape (codes "repl")) c.after_help-named.result = (
      ap shape_of_fields c.after_help-named.ensures ∙ ap shape_of_fields c.about.ensures ∙ ap (λ app. app.top) c.new.ensures.app,
      ap (λ fields. fields.has_globals) c.after_help-named.ensures ∙ ap (λ fields. fields.has_globals) c.about.ensures ∙ c.new.ensures.local,
    ) in
    let has_hints = c.with_option-with_hints.ensures (new_shape (codes "repl")) hints_rule c.hints.ensures.rule is_named in
    let has_files = c.with_option-with_files.ensures _ files_rule c.files.ensures.rule has_hints in
    c.with_limits.ensures _ has_files
