-- Definitions that are refused because of the names that are bound already. The two rules are this profile's.
use Rattle.std.specs.Prelude.{◌≡◌, Bool, true, false, ◌&&◌, ◌||◌, is_some, List, Option, Some, None, codes}
use Rattle.std.specs.Str.{bytes_eq}
use Rattle.nesl_types_shared.specs.Term.{Term}
use Rattle.nesl_builtins.specs.FunctionTypes.{FunctionType}
use Rattle.nesl_builtins.specs.Named.{builtin_named}
use Rattle.nesl_eval_meaning.specs.Names.{Name}
use Rattle.nesl_eval_sound.specs.Referred.{is_named_elsewhere}
use Rattle.nesl_session_bindings.specs.declared.refusal.Refusal.{Refusal}
use Rattle.nesl_session_bindings.specs.declared.refusal.Refusal.TheVariants.{Retype, Taken}
use Rattle.nesl_session_bindings.specs.Meanings.{Meaning, Binding, variable, function, datatype}
use Rattle.nesl_session_bindings.specs.Known.{meaning_in, environment}

-- what a definition makes of a name: a variable of a type, a function of a type, or a datatype
pub data Definition : Type 0 where
  a_variable : Term → Definition
  a_function : FunctionType → Definition
  a_datatype : Definition

-- a variable or a function gets another type; a variable and a function always differ
abbrev pub ChangesType : Option Meaning → Definition → Type 0
ChangesType (Some (variable t v)) (a_variable u) = t ≡ u → ⊥
ChangesType (Some (variable t v)) (a_function g) = Unit {0}
ChangesType (Some (function f p e)) (a_variable u) = Unit {0}
ChangesType (Some (function f p e)) (a_function g) = f ≡ g → ⊥
ChangesType _ _ = ⊥

-- the type would change, though the body of another function refers to the name
abbrev pub IsRetyped : List Binding → Name → Definition → Type 0
IsRetyped bs x k = (is_named_elsewhere x (environment bs) ≡ true) × ChangesType (meaning_in bs x) k

-- the name that is bound to the value of an expression alone
abbrev pub it : Name
it = codes "it"

-- whether the name is a datatype, or is bound and would become a datatype
abbrev pub is_in_use : Option Meaning → Definition → Bool
is_in_use None k = false
is_in_use (Some m) a_datatype = true
is_in_use (Some (datatype tag t)) k = true
is_in_use (Some m) k = false

-- `it` can only be a variable
abbrev pub is_no_variable : Definition → Bool
is_no_variable (a_variable t) = false
is_no_variable _ = true

abbrev pub is_taken : List Binding → Name → Definition → Bool
is_taken bs x k = is_some (builtin_named x) || is_in_use (meaning_in bs x) k || (bytes_eq x it && is_no_variable k)

-- why a definition is refused, if it is: a change of type is checked first
abbrev pub RefusesDefinition : List Binding → Name → Definition → Option Refusal → Type 0
RefusesDefinition bs x k (Some Retype) = IsRetyped bs x k
RefusesDefinition bs x k (Some Taken) = (IsRetyped bs x k → ⊥) × (is_taken bs x k ≡ true)
RefusesDefinition bs x k None = (IsRetyped bs x k → ⊥) × (is_taken bs x k ≡ false)
