-- What is asked of the top-level names.
use Rattle.std.specs.Prelude.{◌≡◌, ℕ, false, List, Option, Some, None}
use Rattle.std.specs.Str.{bytes_eq}
use Rattle.nesl_types.specs.declared.bindings.Top.{Top}
use Rattle.nesl_types.specs.declared.bindings.Top.TheVariants as top
use Rattle.nesl_types.specs.Names.{found}
use Rattle.nesl_types_shared.specs.Numbering.{IsBelow}
use Rattle.nesl_infer_rules.specs.declared.state.OwnName.{OwnName}

-- no variable occurs in the type of a top-level variable, nor in a datatype
abbrev pub IsClosed : Top → Type 0
IsClosed (top.Variable t) = IsBelow 0 t
IsClosed (top.Function s) = Unit {0}
IsClosed (top.Datatype tag held) = IsBelow 0 held

-- of each name that is found
abbrev pub AreClosed : {P : Type 0} → List (List ℕ × Top × P) → Type 0
AreClosed {P = P} context = (x : List ℕ) (t : Top) (payload : P) → found x context ≡ Some (t, payload) → IsClosed t

-- the name is not that of the function that is being defined
abbrev pub IsOther : List ℕ → Option OwnName → Type 0
IsOther x None = Unit {0}
IsOther x (Some o) = bytes_eq x o.name.items ≡ false
