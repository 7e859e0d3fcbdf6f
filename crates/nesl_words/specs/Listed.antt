-- The names that a text lists.
use Rattle.std.specs.Prelude.{ℕ, List, Option, Some, None, Bool, false, not, map, nat_eq, slice_get}
use Rattle.std.specs.List.{filter}
use Rattle.std.specs.Str.{trim}
use Rattle.std.specs.Str.Lines.{lines}

-- whether a line without blanks around it is a name: it isn't empty, and doesn't begin with `#`
abbrev pub begins_name : Option ℕ → Bool
begins_name None = false
begins_name (Some byte) = not (nat_eq byte 35)

abbrev pub is_name : List ℕ → Bool
is_name line = begins_name (slice_get line 0)

-- the names that a text lists: each line without blanks around it, unless it is empty or a comment
abbrev pub names_listed : List ℕ → List (List ℕ)
names_listed text = filter is_name (map trim (lines text))
