-- When an account is right.
use Rattle.std.specs.Prelude.{◌≡◌, ◌≤◌, ◌<◌, ◌+◌, ℕ, List, [], ◌∷◌}
use Rattle.nesl_values.specs.View.{tree_of}
use Rattle.nesl_eval_meaning.specs.Names.{Value}
use Rattle.nesl_eval_meaning.specs.Out as out
use Rattle.nesl_eval_meaning.specs.Out.{Budgeted, fits_budget, exceeds_budget}
use Rattle.nesl_cost_meaning.specs.Cost.{work_in}
use Rattle.nesl_cost_meaning.specs.Traced.{Traced, value, fault, stuck}
use Rattle.nesl_cost_rows.specs.Written as written
use Rattle.nesl_cost_rows.specs.Written.{Note, notes_of}
use Rattle.nesl_cost_eval.specs.declared.account.Account.{Account}
use Rattle.nesl_cost_eval.specs.declared.account.Account.TheVariants.{Done, Fault, Over, Memory}
use Rattle.nesl_cost_eval.specs.Writes.{place_of}

-- the account is what is traced, with its cost written down, where the whole work is within the fuel; nothing is said
-- where that is stuck, or memory ran out
abbrev pub Explains : Account → ℕ → Traced Value → Type 0
Explains a f stuck = Unit {0}
Explains (Done v j) f (value x c) = (tree_of v ≡ x) × (notes_of j ≡ written.written c) × (work_in c ≤ f)
Explains (Done v j) f (fault t s p c) = ⊥
Explains (Fault u i q j) f (value x c) = ⊥
Explains (Fault u i q j) f (fault t s p c) =
    (u ≡ t) × (i ≡ s) × (place_of q ≡ p) × (notes_of j ≡ written.written c) × (work_in c ≤ f)
Explains (Over j) f (value x c) = f < work_in c
Explains (Over j) f (fault t s p c) = f < work_in c
Explains Memory f (value x c) = Unit {0}
Explains Memory f (fault t s p c) = Unit {0}

-- the work that is noted
abbrev pub work_noted : List Note → ℕ
work_noted [] = 0
work_noted (written.entered s ∷ ns) = 1 + work_noted ns
work_noted (written.besides s w d ∷ ns) = w + work_noted ns
work_noted (written.turn s i ∷ ns) = work_noted ns
work_noted (written.others ∷ ns) = work_noted ns
work_noted (written.turned ∷ ns) = work_noted ns
work_noted (written.called x s ∷ ns) = work_noted ns
work_noted (written.returned ∷ ns) = work_noted ns

-- the account is that of the outcome under the budget, and all works that are noted add up to its work
abbrev pub Agrees : Account → Budgeted Value → Type 0
Agrees Memory b = Unit {0}
Agrees a (fits_budget out.stuck) = Unit {0}
Agrees (Done v j) (fits_budget (out.value x w d)) = (tree_of v ≡ x) × (work_noted (notes_of j) ≡ w)
Agrees (Done v j) (fits_budget (out.fault t s w)) = ⊥
Agrees (Done v j) exceeds_budget = ⊥
Agrees (Fault u i q j) (fits_budget (out.value x w d)) = ⊥
Agrees (Fault u i q j) (fits_budget (out.fault t s w)) = (u ≡ t) × (i ≡ s) × (work_noted (notes_of j) ≡ w)
Agrees (Fault u i q j) exceeds_budget = ⊥
Agrees (Over j) exceeds_budget = Unit {0}
Agrees (Over j) (fits_budget (out.value x w d)) = ⊥
Agrees (Over j) (fits_budget (out.fault t s w)) = ⊥
