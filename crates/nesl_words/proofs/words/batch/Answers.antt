use Rattle.std.proofs.Common.{◌∙◌, ap, codes}
use Rattle.clap.specs.Simple.{new_shape, shape_of_fields}
use Rattle.nesl_words.specs.Rules.{heap_rule, csv_rule, hints_rule, users_rule}
use Rattle.nesl_words.specs.Shapes.{IsShaped}
use Rattle.nesl_words.proofs.words.batch.Goals as goal

pub returns : goal.returns
returns c =
    let is_named : IsShaped (new_shape (codes "batch")) c.after_help-named.result = (
      ap shape_of_fields c.after_help-named.ensures ∙ ap shape_of_fields c.about.ensures ∙ ap (λ app. app.top) c.new.ensures.app,
      ap (λ fields. fields.has_globals) c.after_help-named.ensures ∙ ap (λ fields. fields.has_globals) c.about.ensures ∙ c.new.ensures.local,
    ) in
    let has_heap = c.with_option-with_heap.ensures (new_shape (codes "batch")) heap_rule c.heap.ensures.rule is_named in
    let has_csv = c.with_option-with_csv.ensures _ csv_rule c.csv.ensures.rule has_heap in
    let has_hints = c.with_option-with_hints.ensures _ hints_rule c.hints.ensures.rule has_csv in
    let has_limits = c.with_limits-with_bounds.ensures _ has_hints in
    c.with_option.ensures _ users_rule c.user.ensures.rule has_limits
