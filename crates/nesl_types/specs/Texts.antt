-- The texts of types and schemes.
use Rattle.std.specs.Prelude.{ℕ, ◌+◌, ◌/◌, ◌%◌, suc, nat_lt, decimal, Bool, true, false, if◌then◌else◌}
use Rattle.std.specs.Prelude.{List, [], ◌∷◌, ◌++◌, codes}
use Rattle.std.specs.Option.{option_map_or}
use Rattle.nesl_types.specs.declared.classes.Class.{Class}
use Rattle.nesl_types.specs.declared.classes.Class.TheVariants.{Any, Ordinal, Number, Logical}
use Rattle.nesl_types.specs.declared.bindings.Top.{Top}
use Rattle.nesl_types.specs.declared.schemes.Scheme.{Scheme}
use Rattle.nesl_types.specs.Names.{datatype_at}
use Rattle.nesl_types_shared.specs.Term.{Term, int, bool, char, variable, seq_of, pair_of, named}

-- the variables are a to z, then a1 to z1, a2 and so on
abbrev pub variable_text : ℕ → List ℕ
variable_text v = (97 + v % 26) ∷ (if nat_lt v 26 then [] else decimal (v / 26))

-- the name of the datatype with a tag
abbrev pub name_at : {P : Type 0} → List (List ℕ × Top × P) → ℕ → List ℕ
name_at names tag = option_map_or (λ b. b.0) (datatype_at names tag) []

-- a type, in which a pair has brackets unless it is the right part of a pair
abbrev pub type_text : (ℕ → List ℕ) → Bool → Term → List ℕ
type_text names brackets int = codes "int"
type_text names brackets bool = codes "bool"
type_text names brackets char = codes "char"
type_text names brackets (variable v) = variable_text v
type_text names brackets (seq_of t) = codes "[" ++ type_text names true t ++ codes "]"
type_text names brackets (pair_of t u) =
    (if brackets then codes "(" else []) ++ type_text names true t ++ codes ", " ++ type_text names false u
    ++ (if brackets then codes ")" else [])
type_text names brackets (named tag) = names tag

-- the variables from v on, with their classes, but for those that stand for any type
abbrev pub member_texts : ℕ → List Class → List (List ℕ)
member_texts v [] = []
member_texts v (Any ∷ cs) = member_texts (suc v) cs
member_texts v (Ordinal ∷ cs) = (variable_text v ++ codes " in ordinal") ∷ member_texts (suc v) cs
member_texts v (Number ∷ cs) = (variable_text v ++ codes " in number") ∷ member_texts (suc v) cs
member_texts v (Logical ∷ cs) = (variable_text v ++ codes " in logical") ∷ member_texts (suc v) cs

-- each text with a semicolon before it
abbrev pub later_members_text : List (List ℕ) → List ℕ
later_members_text [] = []
later_members_text (t ∷ ts) = codes "; " ++ t ++ later_members_text ts

abbrev pub members_text : List (List ℕ) → List ℕ
members_text [] = []
members_text (t ∷ ts) = codes " :: (" ++ t ++ later_members_text ts ++ codes ")"

-- what a function takes, what it gives, and the classes of the variables
abbrev pub function_text : (ℕ → List ℕ) → Term → Term → List Class → List ℕ
function_text names t u classes =
    type_text names true t ++ codes " -> " ++ type_text names true u ++ members_text (member_texts 0 classes)

abbrev pub scheme_text : (ℕ → List ℕ) → Scheme → List ℕ
scheme_text names s = function_text names s.argument s.result s.classes.items
