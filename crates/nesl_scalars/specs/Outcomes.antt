-- What a function has for its argument, and what a call returns for it.
use Rattle.std.specs.Prelude.{◌≡◌, ◌⊎◌, Result, Ok, Err}
use Rattle.nesl_values.specs.Tree.{ValueTree}
use Rattle.nesl_values.specs.View.{tree_of}
use Rattle.nesl_values.specs.declared.value.Value.{Value}
use Rattle.nesl_scalars.specs.declared.trap.Trap.{Trap}

-- a value, or why there is none; neither where the argument isn't of the function's type
pub data Outcome : Type 0 where
  gives : ValueTree → Outcome
  traps : Trap → Outcome
  undefined : Outcome

-- the result of a call: some trap where the function isn't defined
abbrev pub ResultIsOutcome : {A : Type 0} → Result (Value A) Trap → Outcome → Type 0
ResultIsOutcome (Ok v) o = o ≡ gives (tree_of v)
ResultIsOutcome (Err t) o = (o ≡ traps t) ⊎ (o ≡ undefined)
