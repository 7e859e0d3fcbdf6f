-- Two neighbouring intervals of places, each found under the same budget, put together.
use Rattle.std.specs.Prelude.{ℕ, List}
use Rattle.nesl_eval_meaning.specs.Out.{value, fault, stuck, beside, Budgeted, fits_budget, exceeds_budget, within}

-- the left one decides where it is no list of values; the right one's work is judged after the left one's
abbrev pub halves_joined : {X : Type 0} → Budgeted (List X) → Budgeted (List X) → ℕ → Budgeted (List X)
halves_joined exceeds_budget q b = exceeds_budget
halves_joined (fits_budget stuck) q b = fits_budget stuck
halves_joined (fits_budget (fault t s w)) q b = fits_budget (fault t s w)
halves_joined (fits_budget (value xs w d)) exceeds_budget b = exceeds_budget
halves_joined (fits_budget (value xs w d)) (fits_budget o) b = within b (beside (value xs w d) o)
