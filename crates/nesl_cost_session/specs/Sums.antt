-- When what an expression costs adds up.
use Rattle.std.specs.Prelude.{◌≡◌}
use Rattle.nesl_eval_meaning.specs.Names.{Value}
use Rattle.nesl_eval_meaning.specs.Out as out
use Rattle.nesl_eval_meaning.specs.Out.{Budgeted, fits_budget, exceeds_budget}
use Rattle.nesl_scalars.specs.declared.trap.Trap.{Trap}
use Rattle.nesl_lex.specs.declared.token.Span.{Span}
use Rattle.nesl_cost_meaning.specs.Cost.{works, depths}
use Rattle.nesl_cost_shown.specs.Shown.{charges_shown}
use Rattle.nesl_cost_session.specs.declared.costs.EvaluationEnd.{EvaluationEnd}
use Rattle.nesl_cost_session.specs.declared.costs.EvaluationEnd.TheVariants.{Value as AValue, Fault, Over}
use Rattle.nesl_cost_session.specs.declared.costs.Measured.{Measured}

-- it ended by this fault, wherever in a body that was
abbrev pub EndsBy : EvaluationEnd → Trap → Span → Type 0
EndsBy (Fault u i q) t s = (u ≡ t) × (i ≡ s)
EndsBy AValue t s = ⊥
EndsBy Over t s = ⊥

-- all works in the table add up to the outcome's work, and the depths on the critical path to its depth; nothing is
-- said where the outcome is stuck
abbrev pub AddsUp : Measured → Budgeted Value → Type 0
AddsUp m (fits_budget (out.value x w d)) =
    (m.ending ≡ AValue) × (works (charges_shown m.table) ≡ w) × (depths (charges_shown m.table) ≡ d)
AddsUp m (fits_budget (out.fault t s w)) = EndsBy m.ending t s × (works (charges_shown m.table) ≡ w)
AddsUp m (fits_budget out.stuck) = Unit {0}
AddsUp m exceeds_budget = m.ending ≡ Over
