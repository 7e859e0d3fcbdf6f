-- What the top-level names are: a list of names, each with what it is and a payload.
use Rattle.std.specs.Prelude.{ℕ, zero, suc, ◌≤◌, ◌==◌, Bool, false, List, [], ◌∷◌, slice_get, slice_index}
use Rattle.std.specs.Prelude.{Option, Some, None, if◌then◌else◌}
use Rattle.std.specs.Option.{option_map_or}
use Rattle.std.specs.List.{find}
use Rattle.std.specs.Str.{bytes_eq}
use Rattle.nesl_types.specs.declared.bindings.Top.{Top}
use Rattle.nesl_types.specs.declared.bindings.Top.TheVariants.{Variable, Function, Datatype}

-- whether this is the datatype with the tag
abbrev pub is_datatype : ℕ → Top → Bool
is_datatype tag (Variable ty) = false
is_datatype tag (Function scheme) = false
is_datatype tag (Datatype n held) = n == tag

module _ {P : Type 0} where
  -- names, each with what it is and its payload
  abbrev pub named : List (List ℕ) → List (Top × P) → List (List ℕ × Top × P)
  named [] entries = []
  named (name ∷ names) [] = []
  named (name ∷ names) (e ∷ entries) = (name, e.0, e.1) ∷ named names entries

  -- what a name is, and its payload
  abbrev pub found : List ℕ → List (List ℕ × Top × P) → Option (Top × P)
  found name [] = None
  found name (b ∷ bs) = if bytes_eq name b.0 then Some (b.1, b.2) else found name bs

  -- a name that is there keeps its place, and a new one goes last
  abbrev pub with_name : List ℕ → Top → P → List (List ℕ × Top × P) → List (List ℕ × Top × P)
  with_name name top payload [] = (name, top, payload) ∷ []
  with_name name top payload (b ∷ bs) =
      if bytes_eq name b.0 then (b.0, top, payload) ∷ bs else b ∷ with_name name top payload bs

  -- the name at a place is this; where no name has the place, nothing changes
  abbrev pub with_name_at : ℕ → Top → P → List (List ℕ × Top × P) → List (List ℕ × Top × P)
  with_name_at place top payload [] = []
  with_name_at zero top payload (b ∷ bs) = (b.0, top, payload) ∷ bs
  with_name_at (suc place) top payload (b ∷ bs) = b ∷ with_name_at place top payload bs

  -- the datatype with the tag: the first name that is one
  abbrev pub datatype_at : List (List ℕ × Top × P) → ℕ → Option (List ℕ × Top × P)
  datatype_at names tag = find (λ b. is_datatype tag b.1) names

-- how many come before the first that is the datatype with the tag
abbrev pub datatype_place : List Top → ℕ → ℕ
datatype_place [] tag = 0
datatype_place (t ∷ ts) tag = if is_datatype tag t then 0 else suc (datatype_place ts tag)

-- whether what is at a place is the datatype with the tag
abbrev pub is_datatype_at : List Top → ℕ → ℕ → Bool
is_datatype_at tops place tag = option_map_or (is_datatype tag) (slice_get tops place) false

-- the place that is noted for a tag is not after its datatype
abbrev pub AreReached : List Top → List ℕ → Type 0
AreReached tops places = (tag : ℕ) → slice_index places tag ≤ datatype_place tops tag
