use Rattle.std.proofs.Common.{sym, ap, length, ◌∙◌}
use Rattle.std.specs.Prelude.{◌==◌}
use Rattle.nesl_eval_column_results.proofs.Valued.{none_left}
use Rattle.nesl_eval_column_results.proofs.choices.is_none.Goals as goal

pub returns : goal.returns
returns c = (λ t. none_left c.args.places.now (sym t ∙ c.is_empty.ensures), λ e. c.is_empty.ensures ∙ ap (λ xs. length xs == 0) e)
