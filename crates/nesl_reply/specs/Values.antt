-- How values are written. The forms are this profile's.
use Rattle.std.specs.Prelude.{ℕ, Bool, true, false, not, ◌&&◌, ◌==◌, if◌then◌else◌}
use Rattle.std.specs.Prelude.{map, List, [], ◌∷◌, ◌++◌, Option, None, Some, unwrap_or, codes, decimal}
use Rattle.std.specs.Fmt.{signed_decimal}
use Rattle.std.specs.List.{list_all}
use Rattle.nesl_lex.specs.Lexemes.{is_printable}
use Rattle.nesl_values.specs.Parts.{list_of}
use Rattle.nesl_values.specs.Tree.{ValueTree, ValueTrees, int, boolean, character, pair, seq, tagged, no_trees}
use Rattle.nesl_values.specs.Tree.{tree_then}
use Rattle.nesl_types_shared.specs.Term.{Term, char, seq_of, pair_of}
use Rattle.nesl_types.specs.Names.{datatype_at}
use Rattle.nesl_types.specs.Texts.{name_at}
use Rattle.nesl_types.specs.declared.bindings.Top.{Top}
use Rattle.nesl_types.specs.declared.bindings.Top.TheVariants as top

-- what is known of the datatypes: the name of each tag, and the type that its records hold
pub record DatatypesByTag : Type 0 where
  pub name : ℕ → List ℕ
  pub held : ℕ → Option Term

-- what a datatype's records hold; nothing if the name is no datatype
abbrev pub held_by : {P : Type 0} → Option (List ℕ × Top × P) → Option Term
held_by None = None
held_by (Some b) = held_in b.1
  where
    held_in : Top → Option Term
    held_in (top.Datatype tag ty) = Some ty
    held_in other = None

abbrev pub datatypes : {P : Type 0} → List (List ℕ × Top × P) → DatatypesByTag
datatypes names = record { name = name_at names; held = λ tag. held_by (datatype_at names tag) }

-- The types of a pair's parts, and of a sequence's elements. A value has its type, so the last case of each is never
-- reached.
abbrev pub left_type : Term → Term
left_type (pair_of t u) = t
left_type t = t

abbrev pub right_type : Term → Term
right_type (pair_of t u) = u
right_type t = t

abbrev pub element_type : Term → Term
element_type (seq_of t) = t
element_type t = t

-- whether a sequence of this type is a text
abbrev pub is_text_type : Term → Bool
is_text_type (seq_of char) = true
is_text_type t = false

-- a backquote and its byte, where it is printable, or `code_char(N)`
abbrev pub character_text : ℕ → List ℕ
character_text c = if is_printable c then 96 ∷ c ∷ [] else codes "code_char(" ++ decimal c ++ codes ")"

-- whether a value is a character that can stand between double quotes
abbrev pub is_quotable : ValueTree → Bool
is_quotable (character c) = is_printable c && not (c == 34)
is_quotable t = false

-- the code of a character, and 0 for any other value
abbrev pub code_of : ValueTree → ℕ
code_of (character c) = c
code_of t = 0

-- these characters between double quotes
abbrev pub quoted : List ValueTree → List ℕ
quoted ts = codes "\"" ++ map code_of ts ++ codes "\""

abbrev pub bracketed : Bool → List ℕ → List ℕ
bracketed brackets text = if brackets then codes "(" ++ text ++ codes ")" else text

-- The text of a value of a type. A pair has brackets unless it is the right part of a pair, or is what a record holds.
-- A text stands between double quotes if its bytes allow it.
abbrev mutual
  pub value_text : DatatypesByTag → Bool → Term → ValueTree → List ℕ
  value_text known brackets t (int n) = signed_decimal n
  value_text known brackets t (boolean b) = if b then codes "T" else codes "F"
  value_text known brackets t (character c) = character_text c
  value_text known brackets t (pair v w) =
      bracketed brackets
      (value_text known true (left_type t) v ++ codes ", " ++ value_text known false (right_type t) w)
  value_text known brackets t (tagged tag v) =
      known.name tag ++ codes "(" ++ value_text known false (unwrap_or (known.held tag) t) v ++ codes ")"
  value_text known brackets t (seq vs) =
      if is_text_type t && list_all is_quotable (list_of vs)
      then quoted (list_of vs)
      else codes "[" ++ elements_text known (element_type t) vs ++ codes "]"

  pub elements_text : DatatypesByTag → Term → ValueTrees → List ℕ
  elements_text known t no_trees = []
  elements_text known t (tree_then v vs) = value_text known true t v ++ later_elements_text known t vs

  -- each with a comma before it
  pub later_elements_text : DatatypesByTag → Term → ValueTrees → List ℕ
  later_elements_text known t no_trees = []
  later_elements_text known t (tree_then v vs) =
      codes ", " ++ value_text known true t v ++ later_elements_text known t vs
