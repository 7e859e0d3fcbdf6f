-- What is left of a room after nodes, by what is left after their parts.
use Rattle.std.proofs.Common.{◌≡◌, ℕ, ◌+◌, ◌<◌, sym, ap, subst, ◌∙◌, arith, List, Option, Some, None, Vec, Box, Global}
use Rattle.std.specs.Prelude.{MatchOption}
use Rattle.nesl_syntax_tree.specs.declared.tree.Exp.{Exp}
use Rattle.nesl_syntax_tree.specs.declared.tree.Binding.{Binding}
use Rattle.nesl_syntax_tree.specs.declared.tree.Node as declared
use Rattle.nesl_syntax_tree.specs.Trees.{Shape}
use Rattle.nesl_syntax_tree.specs.Views.{shape_of, tree_of, trees_in, binders_in}
use Rattle.nesl_infer_names.proofs.Arms.{sequence_shape, let_shape, each_shape, filtered_shape}
use Rattle.nesl_session_bindings.specs.Nodes.{expression_nodes, nodes_below, nodes_of_all, nodes_bound}

-- what is left of a room after n, or nothing where n is more
abbrev pub Leaves : ℕ → ℕ → Option ℕ → Type 0
Leaves room n left = MatchOption left (room < n) (λ l. l + n ≡ room)

pub leaves_one : (a b m : ℕ) (o : Option ℕ) → a ≡ b + 1 → Leaves b m o → Leaves a (1 + m) o
leaves_one a b m None e h = omega (arith, e, h)
leaves_one a b m (Some l) e h = omega (arith, e, h)

pub leaves_two : (a b c m n : ℕ) (o : Option ℕ) → a ≡ b + 1 → c + m ≡ b → Leaves c n o → Leaves a (1 + (m + n)) o
leaves_two a b c m n None e f h = omega (arith, e, f, h)
leaves_two a b c m n (Some l) e f h = omega (arith, e, f, h)

pub leaves_three : (a b c d m n k : ℕ) (o : Option ℕ) → a ≡ b + 1 → c + m ≡ b → d + n ≡ c → Leaves d k o → Leaves a (1 + (m + (n + k))) o
leaves_three a b c d m n k None e f g h = omega (arith, e, f, g, h)
leaves_three a b c d m n k (Some l) e f g h = omega (arith, e, f, g, h)

module _ (room : ℕ) (o : Option ℕ) (n : declared.Node) where
  at_shape : (s : Shape) → shape_of n ≡ s → Leaves room (1 + nodes_below s) o → Leaves room (1 + nodes_below (shape_of n)) o
  at_shape s e p = subst (λ (x : Shape). Leaves room (1 + nodes_below x) o) (sym e) p

  pub at_sequence : (v : Vec Exp Global) → n ≡ declared.Sequence v → Leaves room (1 + nodes_of_all (trees_in v.items)) o → Leaves room (1 + nodes_below (shape_of n)) o
  at_sequence v e p = at_shape _ (ap shape_of e ∙ sequence_shape v) p

  pub at_let : (v : Vec Binding Global) (b : Box Exp Global) → n ≡ declared.Let v b
      → Leaves room (1 + (nodes_bound (binders_in v.items) + expression_nodes (tree_of b.value))) o → Leaves room (1 + nodes_below (shape_of n)) o
  at_let v b e p = at_shape _ (ap shape_of e ∙ let_shape v b) p

  pub at_each : (b : Box Exp Global) (v : Vec Binding Global) → n ≡ declared.Each b v
      → Leaves room (1 + (expression_nodes (tree_of b.value) + nodes_bound (binders_in v.items))) o → Leaves room (1 + nodes_below (shape_of n)) o
  at_each b v e p = at_shape _ (ap shape_of e ∙ each_shape b v) p

  pub at_filtered : (b : Box Exp Global) (v : Vec Binding Global) (f : Box Exp Global) → n ≡ declared.FilteredEach b v f
      → Leaves room (1 + (expression_nodes (tree_of b.value) + (nodes_bound (binders_in v.items) + expression_nodes (tree_of f.value)))) o
      → Leaves room (1 + nodes_below (shape_of n)) o
  at_filtered b v f e p = at_shape _ (ap shape_of e ∙ filtered_shape b v f) p

-- what calls with equal arguments leave
pub same_all : (room : ℕ) (o : Option ℕ) (es fs : List Exp) → es ≡ fs → Leaves room (nodes_of_all (trees_in es)) o → Leaves room (nodes_of_all (trees_in fs)) o
same_all room o es fs e h = subst (λ (xs : List Exp). Leaves room (nodes_of_all (trees_in xs)) o) e h

pub same_bound : (room : ℕ) (o : Option ℕ) (bs cs : List Binding) → bs ≡ cs → Leaves room (nodes_bound (binders_in bs)) o → Leaves room (nodes_bound (binders_in cs)) o
same_bound room o bs cs e h = subst (λ (xs : List Binding). Leaves room (nodes_bound (binders_in xs)) o) e h

pub same_exp : (room : ℕ) (o : Option ℕ) (e d : Exp) → e ≡ d → Leaves room (expression_nodes (tree_of e)) o → Leaves room (expression_nodes (tree_of d)) o
same_exp room o e d q h = subst (λ (x : Exp). Leaves room (expression_nodes (tree_of x)) o) q h
