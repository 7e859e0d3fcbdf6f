-- When the result of an evaluation is right.
use Rattle.std.specs.Prelude.{◌≡◌}
use Rattle.nesl_values.specs.View.{tree_of}
use Rattle.nesl_eval_meaning.specs.Names.{Value}
use Rattle.nesl_eval_meaning.specs.Out.{Out, value, fault, stuck, Budgeted, fits_budget, exceeds_budget}
use Rattle.nesl_eval.specs.declared.outcome.Outcome.{Outcome}
use Rattle.nesl_eval.specs.declared.outcome.Outcome.TheVariants.{Done, Fault, Over, Memory}

-- the result is the outcome under the budget; nothing is said where the outcome is stuck, or memory ran out
abbrev pub OutcomeIs : {A : Type 0} → Outcome A → Budgeted Value → Type 0
OutcomeIs Memory b = Unit {0}
OutcomeIs r (fits_budget stuck) = Unit {0}
OutcomeIs (Done v w d) (fits_budget (value x w' d')) = (tree_of v ≡ x) × (w ≡ w') × (d ≡ d')
OutcomeIs (Done v w d) (fits_budget (fault k s w')) = ⊥
OutcomeIs (Done v w d) exceeds_budget = ⊥
OutcomeIs (Fault k s w) (fits_budget (fault k' s' w')) = (k ≡ k') × (s ≡ s') × (w ≡ w')
OutcomeIs (Fault k s w) (fits_budget (value x w' d')) = ⊥
OutcomeIs (Fault k s w) exceeds_budget = ⊥
OutcomeIs Over exceeds_budget = Unit {0}
OutcomeIs Over (fits_budget (value x w d)) = ⊥
OutcomeIs Over (fits_budget (fault k s w)) = ⊥
