-- Where the nodes of a line are: each node's parts within its span, one after another.
use Rattle.std.specs.Prelude.{ℕ, ◌≤◌, List, [], ◌∷◌, ◌++◌, Option, Some, None}
use Rattle.nesl_lex.specs.declared.token.Span.{Span}
use Rattle.nesl_syntax_tree.specs.Trees.{Tree, Shape, Trees, Binders, PatternTree, PatternShape, TypeTree, TypeShape}
use Rattle.nesl_syntax_tree.specs.Trees.{SignatureTree, FormTree, node, pattern, written, span_of, pattern_span}
use Rattle.nesl_syntax_tree.specs.Trees.{type_span}
use Rattle.nesl_syntax_tree.specs.Trees as trees

-- a node of an expression, a pattern or a type; or the token of a type's name, which parentheses don't widen
pub data Item : Type 0 where
  exp_item : Tree → Item
  pattern_item : PatternTree → Item
  type_item : TypeTree → Item
  token_item : Span → Item

abbrev pub item_span : Item → Span
item_span (exp_item e) = span_of e
item_span (pattern_item p) = pattern_span p
item_span (type_item a) = type_span a
item_span (token_item s) = s

abbrev pub items_of : Trees → List Item
items_of trees.none = []
items_of (trees.more t ts) = exp_item t ∷ items_of ts

abbrev pub bound_items : Binders → List Item
bound_items trees.no_binders = []
bound_items (trees.binder p e bs) = pattern_item p ∷ (exp_item e ∷ bound_items bs)

-- an apply-to-each without a body has no node for it in the line
abbrev pub body_items : Tree → List Item
body_items (node s trees.element) = []
body_items e = exp_item e ∷ []

-- an expression's parts, in the order of the line
abbrev pub shape_items : Shape → List Item
shape_items (trees.call x a) = exp_item a ∷ []
shape_items (trees.pair a b) = exp_item a ∷ (exp_item b ∷ [])
shape_items (trees.prefix_of o a) = exp_item a ∷ []
shape_items (trees.infix_of o a b) = exp_item a ∷ (exp_item b ∷ [])
shape_items (trees.index a b) = exp_item a ∷ (exp_item b ∷ [])
shape_items (trees.choice a b c) = exp_item a ∷ (exp_item b ∷ (exp_item c ∷ []))
shape_items (trees.sequence ts) = items_of ts
shape_items (trees.empty t) = type_item t ∷ []
shape_items (trees.range a b) = exp_item a ∷ (exp_item b ∷ [])
shape_items (trees.strided_range a b c) = exp_item a ∷ (exp_item b ∷ (exp_item c ∷ []))
shape_items (trees.let_in bs e) = bound_items bs ++ (exp_item e ∷ [])
shape_items (trees.each e bs) = body_items e ++ bound_items bs
shape_items (trees.filtered_each e bs f) = body_items e ++ (bound_items bs ++ (exp_item f ∷ []))
shape_items _ = []

abbrev pub pattern_items : PatternShape → List Item
pattern_items (trees.name_pattern x) = []
pattern_items (trees.pair_pattern a b) = pattern_item a ∷ (pattern_item b ∷ [])
pattern_items (trees.record_pattern x a) = pattern_item a ∷ []

abbrev pub type_items : TypeShape → List Item
type_items (trees.named x s) = token_item s ∷ []
type_items (trees.sequence_type a) = type_item a ∷ []
type_items (trees.pair_type a b) = type_item a ∷ (type_item b ∷ [])
type_items _ = []

abbrev pub parts_of : Item → List Item
parts_of (exp_item (node s k)) = shape_items k
parts_of (pattern_item (pattern s k)) = pattern_items k
parts_of (type_item (written s k)) = type_items k
parts_of (token_item s) = []

-- nodes between these places, one after another, and so the parts within each
mutual
  pub data Lined : ℕ → List Item → ℕ → Type 0 where
    none_lined : {i j : ℕ} → i ≤ j → Lined i [] j
    more_lined : {i j : ℕ} {x : Item} {xs : List Item}
        → i ≤ (item_span x).start → Orderly x → Lined (item_span x).end xs j
        → Lined i (x ∷ xs) j

  pub data Orderly : Item → Type 0 where
    orderly : {x : Item} → Lined (item_span x).start (parts_of x) (item_span x).end → Orderly x

abbrev pub signature_items : Option SignatureTree → List Item
signature_items (Some s) = type_item s.from ∷ (type_item s.to ∷ [])
signature_items None = []

-- a line's nodes that are part of no other
abbrev pub line_items : FormTree → List Item
line_items (trees.function x p s e) = pattern_item p ∷ (signature_items s ++ (exp_item e ∷ []))
line_items (trees.datatype x a) = type_item a ∷ []
line_items (trees.bind x e) = exp_item e ∷ []
line_items (trees.evaluate e) = exp_item e ∷ []
line_items (trees.show_type e) = exp_item e ∷ []
line_items _ = []
