-- The trees that the code's values mean.
use Rattle.std.specs.Prelude.{List, [], ◌∷◌, option_map, map}
use Rattle.nesl_syntax_tree.specs.declared.tree.TypeExp.{TypeExp}
use Rattle.nesl_syntax_tree.specs.declared.tree.TypeNode.{TypeNode}
use Rattle.nesl_syntax_tree.specs.declared.tree.TypeNode.TheVariants as types
use Rattle.nesl_syntax_tree.specs.declared.tree.Pattern.{Pattern}
use Rattle.nesl_syntax_tree.specs.declared.tree.PatternNode.{PatternNode}
use Rattle.nesl_syntax_tree.specs.declared.tree.PatternNode.TheVariants as patterns
use Rattle.nesl_syntax_tree.specs.declared.tree.Exp.{Exp}
use Rattle.nesl_syntax_tree.specs.declared.tree.Binding.{Binding}
use Rattle.nesl_syntax_tree.specs.declared.tree.Node as declared
use Rattle.nesl_syntax_tree.specs.declared.tree.Member.{Member}
use Rattle.nesl_syntax_tree.specs.declared.tree.Signature.{Signature}
use Rattle.nesl_syntax_tree.specs.declared.tree.Form.{Form}
use Rattle.nesl_syntax_tree.specs.declared.tree.Form.TheVariants as forms
use Rattle.nesl_syntax_tree.specs.Trees.{TypeTree, TypeShape, PatternTree, PatternShape, Tree, Shape, Trees, Binders}
use Rattle.nesl_syntax_tree.specs.Trees.{MemberTree, SignatureTree, FormTree, written, pattern, node, none, more}
use Rattle.nesl_syntax_tree.specs.Trees.{no_binders}
use Rattle.nesl_syntax_tree.specs.Trees.{binder}
use Rattle.nesl_syntax_tree.specs.Trees as trees

abbrev pub type_shape : TypeNode → TypeShape
type_shape types.Int = trees.int
type_shape types.Bool = trees.bool
type_shape types.Char = trees.char
type_shape (types.Name x s) = trees.named x.letters.items s
type_shape (types.Sequence' p s a) = trees.sequence_type (written s (type_shape a))
type_shape (types.Pair' p s a q t b) = trees.pair_type (written s (type_shape a)) (written t (type_shape b))

abbrev pub type_tree : TypeExp → TypeTree
type_tree a = written a.span (type_shape a.node)

abbrev pub pattern_shape : PatternNode → PatternShape
pattern_shape (patterns.Name x) = trees.name_pattern x.letters.items
pattern_shape (patterns.Pair' p s a q t b) =
    trees.pair_pattern (pattern s (pattern_shape a)) (pattern t (pattern_shape b))
pattern_shape (patterns.Record' x p s a) = trees.record_pattern x.letters.items (pattern s (pattern_shape a))

abbrev pub pattern_tree : Pattern → PatternTree
pattern_tree p = pattern p.span (pattern_shape p.node)

abbrev mutual
  pub shape_of : declared.Node → Shape
  shape_of (declared.Number n) = trees.number n
  shape_of (declared.Truth b) = trees.truth b
  shape_of (declared.Character c) = trees.character c
  shape_of (declared.Text bytes) = trees.text bytes.items
  shape_of (declared.Variable x) = trees.variable x.letters.items
  shape_of (declared.Call' x p s a) = trees.call x.letters.items (node s (shape_of a))
  shape_of (declared.Pair' p s a q t b) = trees.pair (node s (shape_of a)) (node t (shape_of b))
  shape_of (declared.Prefix' o p s a) = trees.prefix_of o (node s (shape_of a))
  shape_of (declared.Infix' o p s a q t b) = trees.infix_of o (node s (shape_of a)) (node t (shape_of b))
  shape_of (declared.Index' p s a q t b) = trees.index (node s (shape_of a)) (node t (shape_of b))
  shape_of (declared.Choice' p s a q t b r u c) =
      trees.choice (node s (shape_of a)) (node t (shape_of b)) (node u (shape_of c))
  shape_of (declared.Sequence' v all) = trees.sequence (trees_of all)
  shape_of (declared.Empty t) = trees.empty (type_tree t.value)
  shape_of (declared.Range' p s a q t b) = trees.range (node s (shape_of a)) (node t (shape_of b))
  shape_of (declared.StridedRange' p s a q t b r u c) =
      trees.strided_range (node s (shape_of a)) (node t (shape_of b)) (node u (shape_of c))
  shape_of (declared.Let' v all p s e) = trees.let_in (binders_of all) (node s (shape_of e))
  shape_of (declared.Each' p s e v all) = trees.each (node s (shape_of e)) (binders_of all)
  shape_of (declared.FilteredEach' p s e v all q t f) =
      trees.filtered_each (node s (shape_of e)) (binders_of all) (node t (shape_of f))
  shape_of declared.Element = trees.element

  pub trees_of : {m : _} → declared.Row_of-Exp m → Trees
  trees_of declared.end_of-Exp = none
  trees_of (declared.more_of-Exp s a rest) = more (node s (shape_of a)) (trees_of rest)

  pub binders_of : {m : _} → declared.Row_of-Binding m → Binders
  binders_of declared.end_of-Binding = no_binders
  binders_of (declared.more_of-Binding p s a rest) = binder (pattern_tree p) (node s (shape_of a)) (binders_of rest)

abbrev pub tree_of : Exp → Tree
tree_of e = node e.span (shape_of e.node)

abbrev pub trees_in : List Exp → Trees
trees_in [] = none
trees_in (e ∷ es) = more (tree_of e) (trees_in es)

abbrev pub binders_in : List Binding → Binders
binders_in [] = no_binders
binders_in (b ∷ bs) = binder (pattern_tree b.pattern) (tree_of b.value) (binders_in bs)

abbrev pub member_tree : Member → MemberTree
member_tree m = record { name = m.name.letters.items; class = m.class }

abbrev pub signature_tree : Signature → SignatureTree
signature_tree s = record { from = type_tree s.from; to = type_tree s.to; members = map member_tree s.members.items }

abbrev pub line_of : Form → FormTree
line_of forms.Nothing = trees.nothing
line_of (forms.Fun x p s e) = trees.function x.items (pattern_tree p) (option_map signature_tree s) (tree_of e)
line_of (forms.Datatype x a) = trees.datatype x.items (type_tree a)
line_of (forms.Bind x e) = trees.bind x.items (tree_of e)
line_of (forms.Eval e) = trees.evaluate (tree_of e)
line_of forms.ShowNames = trees.show_names
line_of forms.ShowBudget = trees.show_budget
line_of (forms.ShowType e) = trees.show_type (tree_of e)
