-- What a function's type promises.
use Rattle.std.specs.Prelude.{ℕ, Option}
use Rattle.nesl_values.specs.Tree.{ValueTree}
use Rattle.nesl_types_shared.specs.Term.{Term}
use Rattle.nesl_types.specs.Class.{IsMember, class_at}
use Rattle.nesl_types_shared.specs.Substitution.{substitute}
use Rattle.nesl_scalars.specs.Outcomes.{Outcome, gives, traps, undefined}
use Rattle.nesl_eval_sound.specs.HasType.{HasType}
use Rattle.nesl_builtins.specs.FunctionTypes.{FunctionType}

-- a value of the type, or a refusal
abbrev pub OutcomeHasType : (ℕ → Option Term) → Outcome → Term → Type 0
OutcomeHasType held (gives v) t = HasType held v t
OutcomeHasType held (traps e) t = Unit {0}
OutcomeHasType held undefined t = ⊥

-- the types that are put for variables are in their classes
abbrev pub AreMembers : FunctionType → (ℕ → Term) → Type 0
AreMembers f s = (v : ℕ) → IsMember (class_at f.classes v) (s v)

-- at each instance of its type, it gives a value of the result's type or a refusal for each value of the argument's
-- type
abbrev pub KeepsTypes : FunctionType → (ValueTree → Outcome) → Type 0
KeepsTypes f meaning = (held : ℕ → Option Term) (s : ℕ → Term) → AreMembers f s
    → (v : ValueTree) → HasType held v (substitute s f.argument)
    → OutcomeHasType held (meaning v) (substitute s f.result)
