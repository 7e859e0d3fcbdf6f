-- Nodes that refer to a name, by what was found of their parts.
use Rattle.std.proofs.Common.{◌≡◌, Bool, true, false, subst, sym, ap, ◌∙◌, Vec, Box, Global}
use Rattle.std.specs.Prelude.{◌||◌}
use Rattle.nesl_syntax_tree.specs.declared.tree.Exp.{Exp}
use Rattle.nesl_syntax_tree.specs.declared.tree.Binding.{Binding}
use Rattle.nesl_syntax_tree.specs.declared.tree.Node as declared
use Rattle.nesl_syntax_tree.specs.Trees.{Shape}
use Rattle.nesl_syntax_tree.specs.Views.{shape_of, tree_of, trees_in, binders_in}
use Rattle.nesl_infer_names.proofs.Arms.{sequence_shape, let_shape, each_shape, filtered_shape}
use Rattle.nesl_eval_meaning.specs.Names.{Name}
use Rattle.nesl_eval_sound.specs.Refers.{some_binds, refers, refers_in, any_refers, bindings_refer, drawn_refers}

-- the first is true, or it is false and the second counts
pub or_first : (r a b : Bool) → r ≡ a → r ≡ true → r ≡ (a || b)
or_first r a b e h = subst (λ x. r ≡ (x || b)) (sym (sym e ∙ h)) h

pub or_second : (r a b : Bool) → a ≡ false → r ≡ b → r ≡ (a || b)
or_second r a b e h = subst (λ x. r ≡ (x || b)) (sym e) h

-- what a call with equal arguments tells
pub same_refers : (y : Name) (r h k : Bool) (e d : Exp) → r ≡ refers y h (tree_of e) → h ≡ k → e ≡ d → r ≡ refers y k (tree_of d)
same_refers y r h k e d p q s = p ∙ ap (λ (x : Bool). refers y x (tree_of e)) q ∙ ap (λ (x : Exp). refers y k (tree_of x)) s

module _ (y : Name) (h r : Bool) (n : declared.Node) where
  at_shape : (s : Shape) → shape_of n ≡ s → r ≡ refers_in y h s → r ≡ refers_in y h (shape_of n)
  at_shape s e p = subst (λ (x : Shape). r ≡ refers_in y h x) (sym e) p

  pub at_sequence : (v : Vec Exp Global) → n ≡ declared.Sequence v → r ≡ any_refers y h (trees_in v.items) → r ≡ refers_in y h (shape_of n)
  at_sequence v e p = at_shape _ (ap shape_of e ∙ sequence_shape v) p

  pub at_let : (v : Vec Binding Global) (b : Box Exp Global) → n ≡ declared.Let v b
      → r ≡ (bindings_refer y h (binders_in v.items) || refers y (h || some_binds y (binders_in v.items)) (tree_of b.value)) → r ≡ refers_in y h (shape_of n)
  at_let v b e p = at_shape _ (ap shape_of e ∙ let_shape v b) p

  pub at_each : (b : Box Exp Global) (v : Vec Binding Global) → n ≡ declared.Each b v
      → r ≡ (drawn_refers y h (binders_in v.items) || refers y (h || some_binds y (binders_in v.items)) (tree_of b.value)) → r ≡ refers_in y h (shape_of n)
  at_each b v e p = at_shape _ (ap shape_of e ∙ each_shape b v) p

  pub at_filtered : (b : Box Exp Global) (v : Vec Binding Global) (f : Box Exp Global) → n ≡ declared.FilteredEach b v f
      → r ≡ (drawn_refers y h (binders_in v.items) || (refers y (h || some_binds y (binders_in v.items)) (tree_of b.value) || refers y (h || some_binds y (binders_in v.items)) (tree_of f.value)))
      → r ≡ refers_in y h (shape_of n)
  at_filtered b v f e p = at_shape _ (ap shape_of e ∙ filtered_shape b v f) p
