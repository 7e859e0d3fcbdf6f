-- What a function evaluates to at an argument.
use Rattle.std.specs.Prelude.{◌≡◌, Option, Some, None, Result, Ok, Err}
use Rattle.nesl_scalars.specs.declared.trap.Trap.{Trap}
use Rattle.nesl_values.specs.Tree.{ValueTree}
pub use Rattle.nesl_scalars.specs.Outcomes.{Outcome, gives, traps, undefined}
pub use Rattle.nesl_scalars.specs.Integers.{fits}
pub use Rattle.nesl_scalars.specs.Scalars.{number}

-- the outcome that depends on a part of the argument; it is undefined if the argument doesn't have that part
abbrev pub if_there : {X : Type 0} → Option X → (X → Outcome) → Outcome
if_there (Some x) f = f x
if_there None f = undefined

-- the outcome that depends on a part of the argument, and another one if the argument doesn't have that part
abbrev pub if_there_or : {X : Type 0} → Option X → (X → Outcome) → Outcome → Outcome
if_there_or (Some x) f o = f x
if_there_or None f o = o

-- the outcome is a tree
abbrev pub IsGiven : Outcome → Type 0
IsGiven (gives t) = Unit {0}
IsGiven (traps e) = ⊥
IsGiven undefined = ⊥

-- what a result says of an outcome: of a tree what R says of both, of a refusal that very fault, and of what is
-- undefined some fault
abbrev pub OutcomeGives : {X : Type 0} → (ValueTree → X → Type 0) → Outcome → Result X Trap → Type 0
OutcomeGives R (gives t) (Ok x) = R t x
OutcomeGives R (gives t) (Err e) = ⊥
OutcomeGives R (traps d) (Ok x) = ⊥
OutcomeGives R (traps d) (Err e) = e ≡ d
OutcomeGives R undefined (Ok x) = ⊥
OutcomeGives R undefined (Err e) = Unit {0}
