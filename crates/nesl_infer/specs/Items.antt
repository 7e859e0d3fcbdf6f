-- What an apply-to-each with a filter gives.
use Rattle.std.specs.Prelude.{List, ◌++◌}
use Rattle.nesl_types_shared.specs.Term.{Term, bool}
use Rattle.nesl_syntax_tree.specs.Trees.{Tree, Binders}
use Rattle.nesl_infer_rules.specs.World.{Assumptions}
use Rattle.nesl_infer_rules.specs.Typing.{LocalTypes, HasType, HaveElements, BindersAdd}

-- its items have the type u
abbrev pub HaveItemType : Assumptions → LocalTypes → Tree → Binders → Tree → Term → Type 0
HaveItemType w sc e bs f u =
    (is : List Term) × (ns : LocalTypes) × HaveElements w sc bs is × BindersAdd w bs is ns ×
    HasType w (ns ++ sc) e u × HasType w (ns ++ sc) f bool
