use Rattle.std.proofs.Common.{◌∙◌, ap, codes}
use Rattle.clap.specs.Simple.{new_shape, shape_of_fields}
use Rattle.nesl_words.specs.Rules.{csv_report_rule, exercise_rule, html_rule, jobs_rule, json_report_rule}
use Rattle.nesl_words.specs.Rules.{junit_report_rule, kept_rule, submissions_rule, try_rule}
use Rattle.nesl_words.specs.Shapes.{IsShaped}
use Rattle.nesl_words.proofs.grade_words.grade.Goals as goal

pub returns : goal.returns
returns c =
    let is_named : IsShaped (new_shape (codes "grade")) c.after_help-named.result = (
      ap shape_of_fields c.after_help-named.ensures ∙ ap shape_of_fields c.about.ensures ∙ ap (λ app. app.top) c.new.ensures.app,
      ap (λ fields. fields.has_globals) c.after_help-named.ensures ∙ ap (λ fields. fields.has_globals) c.about.ensures ∙ c.new.ensures.local,
    ) in
    let has_csv = c.with_option-with_csv.ensures (new_shape (codes "grade")) csv_report_rule c.csv.ensures.rule is_named in
    let has_json = c.with_option-with_json.ensures _ json_report_rule c.json.ensures.rule has_csv in
    let has_junit = c.with_option-with_junit.ensures _ junit_report_rule c.junit.ensures.rule has_json in
    let has_html = c.with_option-with_html.ensures _ html_rule c.html.ensures.rule has_junit in
    let has_kept = c.with_option-with_kept.ensures _ kept_rule c.kept.ensures.rule has_html in
    let has_jobs = c.with_option-with_jobs.ensures _ jobs_rule c.jobs.ensures.rule has_kept in
    let has_try = c.with_option-with_try.ensures _ try_rule c.solution.ensures.rule has_jobs in
    let has_exercise = c.with_option-with_exercise.ensures _ exercise_rule c.exercise.ensures.rule has_try in
    c.with_option.ensures _ submissions_rule c.submissions.ensures.rule has_exercise
