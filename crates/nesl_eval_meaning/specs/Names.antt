-- What names mean.
use Rattle.std.specs.Prelude.{ℕ, List, [], ◌∷◌, Option, Some, None, option_and_then}
use Rattle.nesl_values.specs.Tree as values
use Rattle.nesl_values.specs.Parts.{as_pair, as_tagged}
use Rattle.nesl_syntax_tree.specs.Trees.{PatternTree, pattern, name_pattern, pair_pattern, record_pattern, Tree}

-- values are plain trees, and names are their bytes
abbrev pub Value : Type 0
Value = values.ValueTree

abbrev pub Name : Type 0
Name = List ℕ

-- local names with their values, the newest first
abbrev pub Locals : Type 0
Locals = List (Name × Value)

-- the local names, and the element of the innermost apply-to-each, which has no name
pub record Scope : Type 0 where
  pub names : Locals
  pub element : Option Value

-- the scope in which a line or a called body begins has these names and no element
abbrev pub outside : Locals → Scope
outside names = record { names = names; element = None }

-- the same element, and other names
abbrev pub with_names : Scope → Locals → Scope
with_names sc names = record { names = names; element = sc.element }

-- what a top-level name is: a variable's value, a function's parameter and body, a datatype's tag, or nothing
pub data Top : Type 0 where
  variable_of : Value → Top
  function_of : PatternTree → Tree → Top
  datatype_of : ℕ → Top
  nothing : Top

-- the top-level names, in order of first definition
abbrev pub Environment : Type 0
Environment = List (Name × Top)

-- the names with those of a pattern besides, where the value has the pattern's shape; a pattern takes a record of any
-- tag apart, since its type has the tag
abbrev pub bound : PatternTree → Value → Locals → Option Locals
bound (pattern s (name_pattern x)) v names = Some ((x, v) ∷ names)
bound (pattern s (pair_pattern p q)) v names =
    option_and_then (λ b. option_and_then (bound q b.1) (bound p b.0 names)) (as_pair v)
bound (pattern s (record_pattern x p)) v names = option_and_then (λ b. bound p b.1 names) (as_tagged v)
