-- What the names of a session mean to typing, to evaluation and to replies.
use Rattle.std.specs.Prelude.{ℕ, ◌+◌, ◌==◌, false, List, [], ◌∷◌, map, Option, Some, None}
use Rattle.std.specs.Prelude.{is_some, option_and_then, option_map, if◌then◌else◌}
use Rattle.std.specs.Option.{option_map_or}
use Rattle.std.specs.List.{find}
use Rattle.std.specs.Str.{bytes_eq}
use Rattle.nesl_types_shared.specs.Term.{Term}
use Rattle.nesl_infer_names.specs.Names as names
use Rattle.nesl_infer_names.specs.Names.{Names, Referent, names_from}
use Rattle.nesl_eval_meaning.specs.Names as code
use Rattle.nesl_eval_meaning.specs.Names.{Name, Environment, variable_of, function_of, datatype_of}
use Rattle.nesl_reply.specs.Values.{DatatypesByTag}
use Rattle.nesl_session_bindings.specs.Meanings.{Meaning, Binding, variable, function, datatype}

-- what a name means
abbrev pub meaning_in : List Binding → Name → Option Meaning
meaning_in [] x = None
meaning_in (b ∷ bs) x = if bytes_eq x b.name then Some b.meaning else meaning_in bs x

-- a variable's type
abbrev pub type_of : Meaning → Option Term
type_of (variable t v) = Some t
type_of _ = None

-- what a name before `(` refers to: a function, or a datatype that makes a record
abbrev pub referent_of : Meaning → Option Referent
referent_of (variable t v) = None
referent_of (function f p e) = Some (names.function f)
referent_of (datatype tag t) = Some (names.record_of tag t)

-- a datatype's tag, and what its records hold
abbrev pub record_of : Meaning → Option (ℕ × Term)
record_of (datatype tag t) = Some (tag, t)
record_of _ = None

-- what names refer to, for typing
abbrev pub known : List Binding → Option Name → Names
known bs =
    names_from (λ x. option_and_then type_of (meaning_in bs x)) (λ x. option_and_then referent_of (meaning_in bs x))
    (λ x. option_and_then record_of (meaning_in bs x))

-- what names mean, for evaluation
abbrev pub top_of : Meaning → code.Top
top_of (variable t v) = variable_of v
top_of (function f p e) = function_of p e
top_of (datatype tag t) = datatype_of tag

abbrev pub environment : List Binding → Environment
environment bs = map (λ b. (b.name, top_of b.meaning)) bs

-- the datatype with a tag
abbrev pub datatype_with : ℕ → List Binding → Option Binding
datatype_with tag bs = find (λ b. option_map_or (λ r. r.0 == tag) (record_of b.meaning) false) bs

-- the names of datatypes and what they hold, for replies
abbrev pub datatypes_of : List Binding → DatatypesByTag
datatypes_of bs = record {
  name = λ tag. option_map_or (λ b. b.name) (datatype_with tag bs) [];
  held = λ tag. option_and_then (λ b. option_map (λ r. r.1) (record_of b.meaning)) (datatype_with tag bs);
}

-- how many datatypes there are, which is the tag of the next
abbrev pub datatype_count : List Binding → ℕ
datatype_count [] = 0
datatype_count (b ∷ bs) = if is_some (record_of b.meaning) then 1 + datatype_count bs else datatype_count bs

-- a name that is bound again keeps its place, and a new one goes last
abbrev pub put_binding : Name → Meaning → List Binding → List Binding
put_binding x m [] = record { name = x; meaning = m } ∷ []
put_binding x m (b ∷ bs) = if bytes_eq x b.name then record b { meaning = m } ∷ bs else b ∷ put_binding x m bs
