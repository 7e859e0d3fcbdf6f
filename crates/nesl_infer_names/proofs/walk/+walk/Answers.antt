use Rattle.std.proofs.Common.{rules, ◌≡◌, ℕ, Bool, ◌||◌, List, [], ◌++◌, drop, refl, sym, ap, subst, ◌∙◌, arith, OnOk, append_assoc}
use Rattle.std.proofs.lemmas.Grind.{common_steps}
use Rattle.std.proofs.lemmas.Result.{on_ok_weaker}
use Rattle.std.specs.Option.{is_some, option_map}
use Rattle.std.specs.List.{list_any}
use Rattle.std.specs.Str.{bytes_eq}
use Rattle.nesl_lex.specs.declared.token.Span.{Span}
use Rattle.nesl_syntax_tree.specs.declared.tree.Exp.{Exp}
use Rattle.nesl_syntax_tree.specs.declared.tree.Binding.{Binding}
use Rattle.nesl_syntax_tree.specs.declared.tree.TypeExp.{TypeExp}
use Rattle.nesl_syntax_tree.specs.declared.tree.Node as declared
use Rattle.nesl_syntax_tree.specs.Trees.{Shape}
use Rattle.nesl_syntax_tree.specs.Trees as trees
use Rattle.nesl_syntax_tree.specs.Views.{shape_of, type_tree, tree_of, trees_in, binders_in, pattern_tree}
use Rattle.nesl_infer_names.specs.Firsts.{first, earlier}
use Rattle.nesl_infer_names.specs.Names.{Names, OwnName, names_in, span_unless_known, names_bound, all_names_bound, unknown_names, unknown_in, all_unknown_names, unknown_in_let, unknown_in_each}
use Rattle.nesl_infer_names.specs.Scopes.{locals}
use Rattle.nesl_infer_names.proofs.Firsts.{joined, unchanged, moved, moved_two}
use Rattle.nesl_syntax_tree.proofs.tree.Exp.TheLaws as exp
use Rattle.nesl_infer_names.proofs.Sizes.{pair_falls, index_falls, range_falls, choice_falls, strided_falls}
use Rattle.nesl_infer_names.proofs.Loops.{item_step, binder_step, binding_step, bound_step}
use Rattle.nesl_infer_names.proofs.Arms.{pair_shape, index_shape, range_shape, choice_shape, strided_shape, sequence_shape, let_shape, each_shape, filtered_shape, enough, taken_back}
use Rattle.nesl_infer_names.proofs.walk.+walk.Goals as goal

-- what is unknown in the body and the binders of an apply-to-each
abbrev in_each : Names → List (List ℕ) → List Binding → Exp → List Span
in_each ns ls bs e = unknown_names ns (all_names_bound (binders_in bs) ++ ls) (tree_of e) ++ unknown_in_each ns ls (binders_in bs)

pub walk-returns-in-Variable-clause-found : goal.walk-returns-in-Variable-clause-found
walk-returns-in-Variable-clause-found g t c =
    let own : OwnName = option_map (λ v. v.items) c.args.setting.now.own.now in
    let ns : Names = names_in c.args.setting.now.context.now own in
    let ls = locals c.args.scope.now in
    let f = c.args.found.now in
    let s = c.args.exp.now.span in
    subst (λ (k : declared.Node). c.note.new.found ≡ earlier f (first (unknown_in ns ls s (shape_of k)))) (sym c.in-Variable.is)
    (c.note.ensures ∙ ap (λ (b : Bool). earlier f (first (span_unless_known b s)))
    (c.is_known.ensures ∙ ap (λ (x : List ℕ). list_any (bytes_eq x) ls || is_some (ns.variables x)) c.as_slice.ensures.value))

pub walk-returns-in-Empty-clause-found : goal.walk-returns-in-Empty-clause-found
walk-returns-in-Empty-clause-found g t c =
    let own : OwnName = option_map (λ v. v.items) c.args.setting.now.own.now in
    let ns : Names = names_in c.args.setting.now.context.now own in
    let ls = locals c.args.scope.now in
    let f = c.args.found.now in
    let s = c.args.exp.now.span in
    let found : c.walk_type.new.found ≡ earlier f (first (unknown_in ns ls s (shape_of (declared.Empty c.in-Empty.item)))) =
    subst (λ (a : TypeExp). c.walk_type.new.found ≡ earlier f (first (unknown_in ns ls s (trees.empty (type_tree a))))) c.deref-in-Empty.ensures c.walk_type.ensures in
    subst (λ (k : declared.Node). c.walk_type.new.found ≡ earlier f (first (unknown_in ns ls s (shape_of k)))) (sym c.in-Empty.is) found

pub walk-returns-in_ok-walk-in-Let-clause-found : goal.walk-returns-in_ok-walk-in-Let-clause-found
walk-returns-in_ok-walk-in-Let-clause-found g t c =
    let own : OwnName = option_map (λ v. v.items) c.args.setting.now.own.now in
    let ns : Names = names_in c.args.setting.now.context.now own in
    let ls = locals c.args.scope.now in
    let f = c.args.found.now in
    let s = c.args.exp.now.span in
    let g = c.walk_bindings.new.found in
    let h = c.walk-in-Let.new.found in
    let bs = c.in-Let.bindings.items in
    let e = c.in-Let.body.value in
    let ms = c.in_ok-walk_bindings-in-Let.ensures.scope ∙ ap (λ (x : List Binding). all_names_bound (binders_in x) ++ ls) c.as_slice-in-Let.ensures.value in
    subst (λ (k : declared.Node). c.walk-in-Let.new.found ≡ earlier f (first (unknown_in ns ls s (shape_of k)))) (sym c.in-Let.is)
    (subst (λ (k : Shape). c.walk-in-Let.new.found ≡ earlier f (first (unknown_in ns ls s k))) (sym (let_shape c.in-Let.bindings c.in-Let.body))
    (joined f g h (unknown_in_let ns ls (binders_in bs)) (unknown_names ns (all_names_bound (binders_in bs) ++ ls) (tree_of e))
    (c.in_ok-walk_bindings-in-Let.ensures.found ∙ ap (λ (x : List Binding). earlier f (first (unknown_in_let ns ls (binders_in x)))) c.as_slice-in-Let.ensures.value)
    (moved ns (all_names_bound (binders_in bs) ++ ls) (locals c.walk_bindings.new.scope) e c.deref-in-Let.result.now g h ms c.deref-in-Let.ensures c.in_ok-walk-in-Let.ensures.found)))

pub walk-truncate-requires : goal.walk-truncate-requires
walk-truncate-requires g t c =
    let ls = locals c.args.scope.now in
    enough (all_names_bound (binders_in c.as_slice-in-Let.result.now)) ls (locals c.walk-in-Let.new.scope) c.len-before.result c.len-before.ensures (c.in_ok-walk-in-Let.ensures.scope ∙ c.in_ok-walk_bindings-in-Let.ensures.scope)

pub walk-returns-in_ok-walk-in-Let-clause-scope : goal.walk-returns-in_ok-walk-in-Let-clause-scope
walk-returns-in_ok-walk-in-Let-clause-scope g t c =
    let ls = locals c.args.scope.now in
    taken_back (all_names_bound (binders_in c.as_slice-in-Let.result.now)) ls (locals c.walk-in-Let.new.scope) (locals c.truncate.new.self) c.len-before.result c.len-before.ensures (c.in_ok-walk-in-Let.ensures.scope ∙ c.in_ok-walk_bindings-in-Let.ensures.scope) c.truncate.ensures

pub walk_items-loop-item-preserved : goal.walk_items-loop-item-preserved
walk_items-loop-item-preserved g t c =
    let own : OwnName = option_map (λ v. v.items) c.args.setting.now.own.now in
    let ns : Names = names_in c.args.setting.now.context.now own in
    let ls = locals c.args.scope.now in
    let f = c.args.found.now in
    record {
      found =
          item_step ns c.args.items.now c.loop-item.item-index c.item-item.result ls (locals c.loop-item.scope) c.loop-item.found c.walk.new.found c.loop-item-test.true c.item-item.is c.loop-item.invariant.scope c.in_ok-walk.ensures.found
          ∙ c.loop-item.invariant.found;
      scope = c.in_ok-walk.ensures.scope ∙ c.loop-item.invariant.scope;
    }

pub walk_items-returns-clause-found : goal.walk_items-returns-clause-found
walk_items-returns-clause-found g t c =
    let own : OwnName = option_map (λ v. v.items) c.args.setting.now.own.now in
    let ns : Names = names_in c.args.setting.now.context.now own in
    let ls = locals c.args.scope.now in
    let f = c.args.found.now in
    let none : drop c.loop-item.item-index c.args.items.now ≡ [] = grind (arith, common_steps) in
    unchanged c.loop-item.found ∙ ap (λ (es : List Exp). earlier c.loop-item.found (first (all_unknown_names ns ls (trees_in es)))) (sym none) ∙ c.loop-item.invariant.found

pub walk_binders-loop-binder-preserved : goal.walk_binders-loop-binder-preserved
walk_binders-loop-binder-preserved g t c =
    let own : OwnName = option_map (λ v. v.items) c.args.setting.now.own.now in
    let ns : Names = names_in c.args.setting.now.context.now own in
    let ls = locals c.args.scope.now in
    let f = c.args.found.now in
    record {
      found =
          binder_step ns c.args.binders.now c.loop-binder.binder-index c.binder-item.result ls (locals c.loop-binder.scope) c.loop-binder.found c.walk_pattern.new.found c.walk.new.found c.loop-binder-test.true c.binder-item.is c.loop-binder.invariant.scope c.walk_pattern.ensures c.in_ok-walk.ensures.found
          ∙ c.loop-binder.invariant.found;
      scope = c.in_ok-walk.ensures.scope ∙ c.loop-binder.invariant.scope;
    }

pub walk_binders-returns-clause-found : goal.walk_binders-returns-clause-found
walk_binders-returns-clause-found g t c =
    let own : OwnName = option_map (λ v. v.items) c.args.setting.now.own.now in
    let ns : Names = names_in c.args.setting.now.context.now own in
    let ls = locals c.args.scope.now in
    let f = c.args.found.now in
    let none : drop c.loop-binder.binder-index c.args.binders.now ≡ [] = grind (arith, common_steps) in
    unchanged c.loop-binder.found ∙ ap (λ (bs : List Binding). earlier c.loop-binder.found (first (unknown_in_each ns ls (binders_in bs)))) (sym none) ∙ c.loop-binder.invariant.found

pub walk_bindings-loop-binding-preserved : goal.walk_bindings-loop-binding-preserved
walk_bindings-loop-binding-preserved g t c =
    let own : OwnName = option_map (λ v. v.items) c.args.setting.now.own.now in
    let ns : Names = names_in c.args.setting.now.context.now own in
    let ls = locals c.args.scope.now in
    let f = c.args.found.now in
    let b = c.binding-item.result in
    let ms = locals c.loop-binding.scope in
    record {
      found =
          binding_step ns c.args.bindings.now c.loop-binding.binding-index b ms (locals c.walk.new.scope) (locals c.bind.new.scope) c.loop-binding.found c.walk_pattern.new.found c.walk.new.found c.loop-binding-test.true c.binding-item.is c.walk_pattern.ensures c.in_ok-walk.ensures.found c.in_ok-walk.ensures.scope c.in_ok-bind.ensures
          ∙ c.loop-binding.invariant.found;
      scope =
          bound_step c.args.bindings.now c.loop-binding.binding-index b ms (locals c.bind.new.scope) c.loop-binding-test.true c.binding-item.is
          (c.in_ok-bind.ensures ∙ ap (λ (x : List (List ℕ)). names_bound (pattern_tree b.pattern) ++ x) c.in_ok-walk.ensures.scope)
          ∙ c.loop-binding.invariant.scope;
    }

pub walk_bindings-returns-clause-found : goal.walk_bindings-returns-clause-found
walk_bindings-returns-clause-found g t c =
    let own : OwnName = option_map (λ v. v.items) c.args.setting.now.own.now in
    let ns : Names = names_in c.args.setting.now.context.now own in
    let ls = locals c.args.scope.now in
    let f = c.args.found.now in
    let none : drop c.loop-binding.binding-index c.args.bindings.now ≡ [] = grind (arith, common_steps) in
    unchanged c.loop-binding.found ∙ ap (λ (bs : List Binding). earlier c.loop-binding.found (first (unknown_in_let ns (locals c.loop-binding.scope) (binders_in bs)))) (sym none) ∙ c.loop-binding.invariant.found

pub walk_bindings-returns-clause-scope : goal.walk_bindings-returns-clause-scope
walk_bindings-returns-clause-scope g t c =
    let own : OwnName = option_map (λ v. v.items) c.args.setting.now.own.now in
    let ns : Names = names_in c.args.setting.now.context.now own in
    let ls = locals c.args.scope.now in
    let f = c.args.found.now in
    let none : drop c.loop-binding.binding-index c.args.bindings.now ≡ [] = grind (arith, common_steps) in
    ap (λ (bs : List Binding). all_names_bound (binders_in bs) ++ locals c.loop-binding.scope) (sym none) ∙ c.loop-binding.invariant.scope

pub walk-returns-in-Sequence-clause-found : goal.walk-returns-in-Sequence-clause-found
walk-returns-in-Sequence-clause-found g t c =
    let own : OwnName = option_map (λ v. v.items) c.args.setting.now.own.now in
    let ns : Names = names_in c.args.setting.now.context.now own in
    let ls = locals c.args.scope.now in
    let f = c.args.found.now in
    let s = c.args.exp.now.span in
    let h = c.walk_items.new.found in
    let r = c.walk_items.result in
    subst (λ (k : declared.Node). OnOk r (h ≡ earlier f (first (unknown_in ns ls s (shape_of k))))) (sym c.in-Sequence.is)
    (subst (λ (k : Shape). OnOk r (h ≡ earlier f (first (unknown_in ns ls s k)))) (sym (sequence_shape c.in-Sequence.items))
    (subst (λ (es : List Exp). OnOk r (h ≡ earlier f (first (all_unknown_names ns ls (trees_in es))))) c.as_slice-in-Sequence.ensures.value c.walk_items.ensures.found))

pub walk-returns-in_ok-walk_each-in-Each-clause-found : goal.walk-returns-in_ok-walk_each-in-Each-clause-found
walk-returns-in_ok-walk_each-in-Each-clause-found g t c =
    let own : OwnName = option_map (λ v. v.items) c.args.setting.now.own.now in
    let ns : Names = names_in c.args.setting.now.context.now own in
    let ls = locals c.args.scope.now in
    let f = c.args.found.now in
    let s = c.args.exp.now.span in
    let h = c.walk_each.new.found in
    let bs = c.in-Each.bindings.items in
    let d = c.deref-in-Each.result.now in
    let one = c.in_ok-walk_each-in-Each.ensures.found ∙ ap (λ (x : List Binding). earlier f (first (in_each ns ls x d))) c.as_slice-in-Each.ensures.value ∙ ap (λ (x : Exp). earlier f (first (in_each ns ls bs x))) c.deref-in-Each.ensures in
    subst (λ (k : declared.Node). h ≡ earlier f (first (unknown_in ns ls s (shape_of k)))) (sym c.in-Each.is)
    (subst (λ (k : Shape). h ≡ earlier f (first (unknown_in ns ls s k))) (sym (each_shape c.in-Each.body c.in-Each.bindings)) one)

pub walk-returns-in_ok-walk-in-FilteredEach-clause-found : goal.walk-returns-in_ok-walk-in-FilteredEach-clause-found
walk-returns-in_ok-walk-in-FilteredEach-clause-found g t c =
    let own : OwnName = option_map (λ v. v.items) c.args.setting.now.own.now in
    let ns : Names = names_in c.args.setting.now.context.now own in
    let ls = locals c.args.scope.now in
    let f = c.args.found.now in
    let s = c.args.exp.now.span in
    let h = c.walk_each-in-FilteredEach.new.found in
    let last = c.walk-in-FilteredEach.new.found in
    let bs = c.in-FilteredEach.bindings.items in
    let e = c.in-FilteredEach.body.value in
    let d = c.deref-in-FilteredEach.result.now in
    let filter = c.in-FilteredEach.filter.value in
    let ms : List (List ℕ) = all_names_bound (binders_in bs) ++ ls in
    let value = c.as_slice-in-FilteredEach.ensures.value in
    let one = c.in_ok-walk_each-in-FilteredEach.ensures.found ∙ ap (λ (x : List Binding). earlier f (first (in_each ns ls x d))) value ∙ ap (λ (x : Exp). earlier f (first (in_each ns ls bs x))) c.deref-in-FilteredEach.ensures in
    let bound = c.in_ok-walk_each-in-FilteredEach.ensures.scope ∙ ap (λ (x : List Binding). all_names_bound (binders_in x) ++ ls) value in
    let two = moved ns ms (locals c.walk_each-in-FilteredEach.new.scope) filter c.deref-in-FilteredEach-2.result.now h last bound c.deref-in-FilteredEach-2.ensures c.in_ok-walk-in-FilteredEach.ensures.found in
    subst (λ (k : declared.Node). last ≡ earlier f (first (unknown_in ns ls s (shape_of k)))) (sym c.in-FilteredEach.is)
    (subst (λ (k : Shape). last ≡ earlier f (first (unknown_in ns ls s k))) (sym (filtered_shape c.in-FilteredEach.body c.in-FilteredEach.bindings c.in-FilteredEach.filter))
    (joined f h last (in_each ns ls bs e) (unknown_names ns ms (tree_of filter)) one two
    ∙ ap (λ (ss : List Span). earlier f (first ss)) (append_assoc (unknown_names ns ms (tree_of e)) (unknown_in_each ns ls (binders_in bs)) (unknown_names ns ms (tree_of filter)))))

pub walk-truncate-requires-in-Each : goal.walk-truncate-requires-in-Each
walk-truncate-requires-in-Each g t c =
    let ls = locals c.args.scope.now in
    enough (all_names_bound (binders_in c.as_slice-in-Each.result.now)) ls (locals c.walk_each.new.scope) c.len-before-in-Each.result c.len-before-in-Each.ensures c.in_ok-walk_each-in-Each.ensures.scope

pub walk-returns-in_ok-walk_each-in-Each-clause-scope : goal.walk-returns-in_ok-walk_each-in-Each-clause-scope
walk-returns-in_ok-walk_each-in-Each-clause-scope g t c =
    let ls = locals c.args.scope.now in
    taken_back (all_names_bound (binders_in c.as_slice-in-Each.result.now)) ls (locals c.walk_each.new.scope) (locals c.truncate-in-Each.new.self) c.len-before-in-Each.result c.len-before-in-Each.ensures c.in_ok-walk_each-in-Each.ensures.scope c.truncate-in-Each.ensures

pub walk-truncate-requires-in-FilteredEach : goal.walk-truncate-requires-in-FilteredEach
walk-truncate-requires-in-FilteredEach g t c =
    let ls = locals c.args.scope.now in
    enough (all_names_bound (binders_in c.as_slice-in-FilteredEach.result.now)) ls (locals c.walk-in-FilteredEach.new.scope) c.len-before-in-FilteredEach.result c.len-before-in-FilteredEach.ensures (c.in_ok-walk-in-FilteredEach.ensures.scope ∙ c.in_ok-walk_each-in-FilteredEach.ensures.scope)

pub walk-returns-in_ok-walk-in-FilteredEach-clause-scope : goal.walk-returns-in_ok-walk-in-FilteredEach-clause-scope
walk-returns-in_ok-walk-in-FilteredEach-clause-scope g t c =
    let ls = locals c.args.scope.now in
    taken_back (all_names_bound (binders_in c.as_slice-in-FilteredEach.result.now)) ls (locals c.walk-in-FilteredEach.new.scope) (locals c.truncate-in-FilteredEach.new.self) c.len-before-in-FilteredEach.result c.len-before-in-FilteredEach.ensures (c.in_ok-walk-in-FilteredEach.ensures.scope ∙ c.in_ok-walk_each-in-FilteredEach.ensures.scope) c.truncate-in-FilteredEach.ensures

pub walk-returns-in-Pair-clause-found : goal.walk-returns-in-Pair-clause-found
walk-returns-in-Pair-clause-found g t c =
    let own : OwnName = option_map (λ v. v.items) c.args.setting.now.own.now in
    let ns : Names = names_in c.args.setting.now.context.now own in
    let ls = locals c.args.scope.now in
    let f = c.args.found.now in
    let s = c.args.exp.now.span in
    let a = c.in-Pair.left in
    let b = c.in-Pair.right in
    let h = c.walk_two.new.found in
    let r = c.walk_two.result in
    subst (λ (k : declared.Node). OnOk r (h ≡ earlier f (first (unknown_in ns ls s (shape_of k))))) (sym c.in-Pair.is)
    (subst (λ (k : Shape). OnOk r (h ≡ earlier f (first (unknown_in ns ls s k)))) (sym (pair_shape a b))
    (on_ok_weaker r (moved_two ns ls ls a.value b.value c.deref-in-Pair.result.now c.deref-in-Pair-2.result.now f h refl c.deref-in-Pair.ensures c.deref-in-Pair-2.ensures) c.walk_two.ensures.found))

pub walk-returns-in-Index-clause-found : goal.walk-returns-in-Index-clause-found
walk-returns-in-Index-clause-found g t c =
    let own : OwnName = option_map (λ v. v.items) c.args.setting.now.own.now in
    let ns : Names = names_in c.args.setting.now.context.now own in
    let ls = locals c.args.scope.now in
    let f = c.args.found.now in
    let s = c.args.exp.now.span in
    let a = c.in-Index.sequence in
    let b = c.in-Index.index in
    let h = c.walk_two-in-Index.new.found in
    let r = c.walk_two-in-Index.result in
    subst (λ (k : declared.Node). OnOk r (h ≡ earlier f (first (unknown_in ns ls s (shape_of k))))) (sym c.in-Index.is)
    (subst (λ (k : Shape). OnOk r (h ≡ earlier f (first (unknown_in ns ls s k)))) (sym (index_shape a b))
    (on_ok_weaker r (moved_two ns ls ls a.value b.value c.deref-in-Index.result.now c.deref-in-Index-2.result.now f h refl c.deref-in-Index.ensures c.deref-in-Index-2.ensures) c.walk_two-in-Index.ensures.found))

pub walk-returns-in-Range-clause-found : goal.walk-returns-in-Range-clause-found
walk-returns-in-Range-clause-found g t c =
    let own : OwnName = option_map (λ v. v.items) c.args.setting.now.own.now in
    let ns : Names = names_in c.args.setting.now.context.now own in
    let ls = locals c.args.scope.now in
    let f = c.args.found.now in
    let s = c.args.exp.now.span in
    let a = c.in-Range.from in
    let b = c.in-Range.to in
    let h = c.walk_two-in-Range.new.found in
    let r = c.walk_two-in-Range.result in
    subst (λ (k : declared.Node). OnOk r (h ≡ earlier f (first (unknown_in ns ls s (shape_of k))))) (sym c.in-Range.is)
    (subst (λ (k : Shape). OnOk r (h ≡ earlier f (first (unknown_in ns ls s k)))) (sym (range_shape a b))
    (on_ok_weaker r (moved_two ns ls ls a.value b.value c.deref-in-Range.result.now c.deref-in-Range-2.result.now f h refl c.deref-in-Range.ensures c.deref-in-Range-2.ensures) c.walk_two-in-Range.ensures.found))

pub walk-returns-in_ok-walk-in-Choice-clause-found : goal.walk-returns-in_ok-walk-in-Choice-clause-found
walk-returns-in_ok-walk-in-Choice-clause-found g t c =
    let own : OwnName = option_map (λ v. v.items) c.args.setting.now.own.now in
    let ns : Names = names_in c.args.setting.now.context.now own in
    let ls = locals c.args.scope.now in
    let f = c.args.found.now in
    let s = c.args.exp.now.span in
    let a = c.in-Choice.test in
    let b = c.in-Choice.yes in
    let d = c.in-Choice.no in
    let m = c.walk-in-Choice.new.found in
    let h = c.walk_two-in-Choice.new.found in
    let r = c.walk_two-in-Choice.result in
    let test = moved ns ls ls a.value c.deref-in-Choice.result.now f m refl c.deref-in-Choice.ensures c.in_ok-walk-in-Choice.ensures.found in
    let rest = moved_two ns ls (locals c.walk-in-Choice.new.scope) b.value d.value c.deref-in-Choice-2.result.now c.deref-in-Choice-3.result.now m h c.in_ok-walk-in-Choice.ensures.scope c.deref-in-Choice-2.ensures c.deref-in-Choice-3.ensures in
    subst (λ (k : declared.Node). OnOk r (h ≡ earlier f (first (unknown_in ns ls s (shape_of k))))) (sym c.in-Choice.is)
    (subst (λ (k : Shape). OnOk r (h ≡ earlier f (first (unknown_in ns ls s k)))) (sym (choice_shape a b d))
    (on_ok_weaker r (λ x. joined f m h (unknown_names ns ls (tree_of a.value)) (unknown_names ns ls (tree_of b.value) ++ unknown_names ns ls (tree_of d.value)) test (rest x)) c.walk_two-in-Choice.ensures.found))

pub walk-returns-in_ok-walk-in-StridedRange-clause-found : goal.walk-returns-in_ok-walk-in-StridedRange-clause-found
walk-returns-in_ok-walk-in-StridedRange-clause-found g t c =
    let own : OwnName = option_map (λ v. v.items) c.args.setting.now.own.now in
    let ns : Names = names_in c.args.setting.now.context.now own in
    let ls = locals c.args.scope.now in
    let f = c.args.found.now in
    let s = c.args.exp.now.span in
    let a = c.in-StridedRange.from in
    let b = c.in-StridedRange.to in
    let d = c.in-StridedRange.stride in
    let m = c.walk-in-StridedRange.new.found in
    let h = c.walk_two-in-StridedRange.new.found in
    let r = c.walk_two-in-StridedRange.result in
    let test = moved ns ls ls a.value c.deref-in-StridedRange.result.now f m refl c.deref-in-StridedRange.ensures c.in_ok-walk-in-StridedRange.ensures.found in
    let rest = moved_two ns ls (locals c.walk-in-StridedRange.new.scope) b.value d.value c.deref-in-StridedRange-2.result.now c.deref-in-StridedRange-3.result.now m h c.in_ok-walk-in-StridedRange.ensures.scope c.deref-in-StridedRange-2.ensures c.deref-in-StridedRange-3.ensures in
    subst (λ (k : declared.Node). OnOk r (h ≡ earlier f (first (unknown_in ns ls s (shape_of k))))) (sym c.in-StridedRange.is)
    (subst (λ (k : Shape). OnOk r (h ≡ earlier f (first (unknown_in ns ls s k)))) (sym (strided_shape a b d))
    (on_ok_weaker r (λ x. joined f m h (unknown_names ns ls (tree_of a.value)) (unknown_names ns ls (tree_of b.value) ++ unknown_names ns ls (tree_of d.value)) test (rest x)) c.walk_two-in-StridedRange.ensures.found))

pub walk_two-returns-clause-found : goal.walk_two-returns-clause-found
walk_two-returns-clause-found g t c =
    let own : OwnName = option_map (λ v. v.items) c.args.setting.now.own.now in
    let ns : Names = names_in c.args.setting.now.context.now own in
    let ls = locals c.args.scope.now in
    let f = c.args.found.now in
    let a = c.args.left.now in
    let b = c.args.right.now in
    let m = c.walk.new.found in
    let h = c.walk-2.new.found in
    on_ok_weaker c.walk-2.result
    (λ x. joined f m h (unknown_names ns ls (tree_of a)) (unknown_names ns ls (tree_of b)) c.in_ok-walk.ensures.found (moved ns ls (locals c.walk.new.scope) b b m h c.in_ok-walk.ensures.scope refl x))
    c.walk-2.ensures.found

pub walk-walk_two-requires : goal.walk-walk_two-requires
walk-walk_two-requires g t c =
    let less = pair_falls c.args.exp.now c.in-Pair.left c.in-Pair.right c.in-Pair.is in
    let one = ap exp.the_size c.deref-in-Pair.ensures in
    let two = ap exp.the_size c.deref-in-Pair-2.ensures in
    λ κs l. (omega (arith, c.decreases, less, one, two), search rules)

pub walk-walk_two-requires-in-Index : goal.walk-walk_two-requires-in-Index
walk-walk_two-requires-in-Index g t c =
    let less = index_falls c.args.exp.now c.in-Index.sequence c.in-Index.index c.in-Index.is in
    let one = ap exp.the_size c.deref-in-Index.ensures in
    let two = ap exp.the_size c.deref-in-Index-2.ensures in
    λ κs l. (omega (arith, c.decreases, less, one, two), search rules)

pub walk-walk_two-requires-in-Range : goal.walk-walk_two-requires-in-Range
walk-walk_two-requires-in-Range g t c =
    let less = range_falls c.args.exp.now c.in-Range.from c.in-Range.to c.in-Range.is in
    let one = ap exp.the_size c.deref-in-Range.ensures in
    let two = ap exp.the_size c.deref-in-Range-2.ensures in
    λ κs l. (omega (arith, c.decreases, less, one, two), search rules)

pub walk-walk_two-requires-in-Choice : goal.walk-walk_two-requires-in-Choice
walk-walk_two-requires-in-Choice g t c =
    let less = choice_falls c.args.exp.now c.in-Choice.test c.in-Choice.yes c.in-Choice.no c.in-Choice.is in
    let two = ap exp.the_size c.deref-in-Choice-2.ensures in
    let three = ap exp.the_size c.deref-in-Choice-3.ensures in
    λ κs l. (omega (arith, c.decreases, less, two, three), search rules)

pub walk-walk-requires-in-Choice : goal.walk-walk-requires-in-Choice
walk-walk-requires-in-Choice g t c =
    let less = choice_falls c.args.exp.now c.in-Choice.test c.in-Choice.yes c.in-Choice.no c.in-Choice.is in
    let one = ap exp.the_size c.deref-in-Choice.ensures in
    λ κs l. (omega (arith, c.decreases, less, one), search rules)

pub walk-walk_two-requires-in-StridedRange : goal.walk-walk_two-requires-in-StridedRange
walk-walk_two-requires-in-StridedRange g t c =
    let less = strided_falls c.args.exp.now c.in-StridedRange.from c.in-StridedRange.to c.in-StridedRange.stride c.in-StridedRange.is in
    let two = ap exp.the_size c.deref-in-StridedRange-2.ensures in
    let three = ap exp.the_size c.deref-in-StridedRange-3.ensures in
    λ κs l. (omega (arith, c.decreases, less, two, three), search rules)

pub walk-walk-requires-in-StridedRange : goal.walk-walk-requires-in-StridedRange
walk-walk-requires-in-StridedRange g t c =
    let less = strided_falls c.args.exp.now c.in-StridedRange.from c.in-StridedRange.to c.in-StridedRange.stride c.in-StridedRange.is in
    let one = ap exp.the_size c.deref-in-StridedRange.ensures in
    λ κs l. (omega (arith, c.decreases, less, one), search rules)
