-- The names of a signature's types.
use Rattle.std.specs.Prelude.{◌≡◌, ◌≤◌, ℕ, List, [], ◌∷◌, ◌++◌, unwrap_or}
use Rattle.nesl_types_shared.specs.Term.{Term, int, nodes}
use Rattle.nesl_syntax_tree.specs.Trees.{TypeTree, TypeShape, written}
use Rattle.nesl_syntax_tree.specs.Trees as trees
use Rattle.nesl_infer_rules.specs.Typing.{LocalTypes, name, local_type}

-- each name of a type that is written, with a type of at most 4,096 nodes, the last one first
abbrev mutual
  pub FreeNames : TypeTree → LocalTypes → Type 0
  FreeNames (written s k) ns = FreeNamesOf k ns

  pub FreeNamesOf : TypeShape → LocalTypes → Type 0
  FreeNamesOf trees.int ns = ns ≡ []
  FreeNamesOf trees.bool ns = ns ≡ []
  FreeNamesOf trees.char ns = ns ≡ []
  FreeNamesOf (trees.named x s) ns = (t : Term) × (nodes t ≤ 4096) × (ns ≡ (name x, t) ∷ [])
  FreeNamesOf (trees.sequence_type a) ns = FreeNames a ns
  FreeNamesOf (trees.pair_type a b) ns = (ms : LocalTypes) × (os : LocalTypes) × FreeNames a ms × FreeNames b os
      × (ns ≡ os ++ ms)

-- the type of a name in a scope, or `int` where it has none
abbrev pub put_in : LocalTypes → List ℕ → Term
put_in ns x = unwrap_or (local_type x ns) int
