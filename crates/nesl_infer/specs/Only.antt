-- Where a type is the only one, whatever the classes of variables.
use Rattle.std.specs.Prelude.{◌≡◌, ℕ, List}
use Rattle.nesl_types.specs.declared.bindings.Top.{Top}
use Rattle.nesl_types.specs.declared.classes.Class.{Class}
use Rattle.nesl_types_shared.specs.Term.{Term}
use Rattle.nesl_syntax_tree.specs.Trees.{Tree}
use Rattle.nesl_infer_rules.specs.Principal.{Typed}

-- the expression has the type, and no other one
pub record IsOnlyType {P : Type 0} (context : List (List ℕ × Top × P)) (e : Tree) (t : Term) : Type 0 where
  pub fits : (of : ℕ → Class) → Typed context e of t
  pub only : (of : ℕ → Class) (u : Term) → Typed context e of u → u ≡ t
