-- What names mean where an expression is: what they refer to, with its types.
use Rattle.std.specs.Prelude.{ℕ, List, Option, Some, None, ◌≤◌}
use Rattle.nesl_types.specs.declared.classes.Class.{Class}
use Rattle.nesl_types.specs.declared.bindings.Top.{Top}
use Rattle.nesl_types_shared.specs.Term.{Term, named, nodes}
use Rattle.nesl_builtins.specs.FunctionTypes.{FunctionType, builtin_type}
use Rattle.nesl_infer_names.specs.Names.{Names, Referent, itself, built_in, function, record_of, names_in}

-- what a name before `(` takes and gives: any instance of a function's type, or one type alone
pub data Callable : Type 0 where
  general : FunctionType → Callable
  single : Term → Term → Callable

-- the tag of a datatype, and what its records hold
abbrev pub DatatypesByName : Type 0
DatatypesByName = List ℕ → Option (ℕ × Term)

-- the top-level variables with their types; what may come before `(`; and the datatypes
pub record TypedNames : Type 0 where
  pub variables : List ℕ → Option Term
  pub functions : List ℕ → Option Callable
  pub datatypes : DatatypesByName

-- names, the class of each variable of the types, and how many nodes a type may have, where that is bounded
pub record Assumptions : Type 0 where
  pub names : TypedNames
  pub of : ℕ → Class
  pub limit : Option ℕ

-- the type is not too large
abbrev pub IsAllowed : Option ℕ → Term → Type 0
IsAllowed None t = Unit {0}
IsAllowed (Some n) t = nodes t ≤ n

-- the function whose body an expression is in, with what it takes and gives
abbrev pub OwnFunction : Type 0
OwnFunction = Option (List ℕ × Term × Term)

abbrev pub own_name : OwnFunction → Option (List ℕ)
own_name None = None
own_name (Some own) = Some own.0

-- in its body a function has its one type; a datatype's name before `(` makes a record
abbrev pub own_callable : OwnFunction → Option Callable
own_callable None = None
own_callable (Some own) = Some (single own.1 own.2)

abbrev pub callable_of : OwnFunction → Option Referent → Option Callable
callable_of own (Some itself) = own_callable own
callable_of own (Some (built_in b)) = Some (general (builtin_type b))
callable_of own (Some (function f)) = Some (general f)
callable_of own (Some (record_of tag held)) = Some (single held (named tag))
callable_of own None = None

-- what names mean, by what they refer to
abbrev pub typed_names_by : (Option (List ℕ) → Names) → OwnFunction → TypedNames
typed_names_by known own = record {
  variables = (known (own_name own)).variables;
  functions = λ x. callable_of own ((known (own_name own)).functions x);
  datatypes = (known (own_name own)).datatypes;
}

abbrev pub meanings_in : {P : Type 0} → List (List ℕ × Top × P) → OwnFunction → TypedNames
meanings_in context = typed_names_by (names_in context)
