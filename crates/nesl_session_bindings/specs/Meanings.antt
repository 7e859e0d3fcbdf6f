-- What the top-level names of a session mean, without the places in memory.
use Rattle.std.specs.Prelude.{ℕ, Bool, true, false, List, [], count_by, sum_by}
use Rattle.nesl_types_shared.specs.Term.{Term, nodes}
use Rattle.nesl_values.specs.Tree.{size}
use Rattle.nesl_syntax_tree.specs.Trees.{PatternTree, Tree}
use Rattle.nesl_builtins.specs.FunctionTypes.{FunctionType}
use Rattle.nesl_infer.specs.Uses.{Use, at_node, at_pattern, uses}
use Rattle.nesl_eval_meaning.specs.Names.{Name, Value}

-- What a name means. A variable has a type and a value. A function has a type, a parameter and a body. A datatype has a
-- tag and the type that its records hold.
pub data Meaning : Type 0 where
  variable : (type : Term) (value : Value) → Meaning
  function : (type : FunctionType) (parameter : PatternTree) (body : Tree) → Meaning
  datatype : (tag : ℕ) (content : Term) → Meaning

pub record Binding : Type 0 where
  pub name : Name
  pub meaning : Meaning

-- The number of expression nodes of a body. Each node counts, also the pair of an argument list and the unwritten body
-- of an apply-to-each. Patterns and written types do not count.
abbrev pub is_node : Use → Bool
is_node (at_node ls s k) = true
is_node (at_pattern p) = false

unfoldable pub nodes_in : Tree → ℕ
nodes_in e = count_by is_node (uses [] e)

-- the number of elements of a name: the nodes of a value, of a function's body, or of what a datatype holds
abbrev pub elements_in : Meaning → ℕ
elements_in (variable t v) = size v
elements_in (function f p e) = nodes_in e
elements_in (datatype tag t) = nodes t

abbrev pub elements_of : List Binding → ℕ
elements_of bindings = sum_by (λ b. elements_in b.meaning) bindings
