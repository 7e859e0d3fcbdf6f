use Rattle.std.proofs.Common.{refl, ◌≡◌, ◌<◌, ◌+◌, ◌++◌, ◌∷◌, [], ℕ, List, take, length, sym, ap, subst, ◌∙◌, arith, rules, length-append}
use Rattle.std.specs.Prelude.{All, OnOk}
use Rattle.std.proofs.lemmas.Result.{on_ok_weaker}
use Rattle.std.proofs.lemmas.List.Elements.{All-nil, All-push, All-weaker}
use Rattle.std.proofs.lemmas.Grind.{common_steps}
use Rattle.nesl_types_shared.specs.Term.{Term, int, bool, pair_of}
use Rattle.nesl_syntax_tree.specs.declared.tree.TypeExp.{TypeExp}
use Rattle.nesl_syntax_tree.specs.declared.tree.Node as declared
use Rattle.nesl_syntax_tree.specs.Views.{type_tree, shape_of, trees_in, tree_of, binders_in, pattern_tree}
use Rattle.nesl_syntax_tree.specs.declared.tree.Binding.{Binding}
use Rattle.nesl_syntax_tree.specs.declared.tree.Exp.{Exp}
use Rattle.nesl_infer_rules.specs.declared.state.Local.{Local}
use Rattle.nesl_syntax_tree.specs.Trees.{node, no_binders, Trees, Shape, Binders}
use Rattle.nesl_syntax_tree.specs.Trees as trees
use Rattle.nesl_infer_rules.specs.World.{TypedNames, meanings_in}
use Rattle.nesl_infer_rules.specs.Typing.{LocalTypes, local_type, IsVariable, IsInstanceOf}
use Rattle.nesl_infer_rules.specs.Steps.{Adds, AreLocalsBelow, own_at, scope_at, count}
use Rattle.nesl_builtins.specs.declared.builtin.Builtin.{Builtin}
use Rattle.nesl_builtins.specs.FunctionTypes.{builtin_type}
use Rattle.nesl_infer_rules.specs.Principal.{bounded}
use Rattle.nesl_infer_rules.proofs.Places.{fixed}
use Rattle.nesl_infer_rules.proofs.Arms.{AllType, Types, infix_pair, arm_more, arm_sequence, retyped}
use Rattle.nesl_infer.proofs.Shapes.{sequence_shape, let_shape, each_shape, filtered_shape, take-trees}
use Rattle.nesl_unify.specs.Flat.{flat_type}
use Rattle.nesl_infer.proofs.Sizes.{filtered_falls, deepest_binding}
use Rattle.nesl_infer.proofs.Parts.{typed, part_local, part_as, exactly_as, bounds_as, arm_part, arm_exactly, arm_bounds, arm_pair, arm_infix, arm_prefix, arm_call, arm_index, arm_choice, arm_range, arm_strided_range, arm_binders, arm_let, arm_each, arm_filtered_items, arm_filtered_each}
use Rattle.nesl_infer_rules.proofs.Applied.{Applies}
use Rattle.nesl_infer_rules.proofs.Patterns.{NamesOf, added_below, locals-weaker}
use Rattle.nesl_infer_rules.proofs.Lets.{BindsOf, arm_binding, no_bindings, take-binders}
use Rattle.nesl_infer_rules.proofs.Eaches.{ElementsOf, DrawsOf, no_elements, arm_value}
use Rattle.nesl_syntax_tree.proofs.tree.Exp.TheLaws as exp
use Rattle.nesl_infer.proofs.constrain.+constrain.Goals as goal

pub constrain_items-loop-item-preserved : goal.constrain_items-loop-item-preserved
constrain_items-loop-item-preserved g t c = record {
  adds =
      let N : (ℕ → Term) → TypedNames = λ s. meanings_in c.args.outer.now.context.now (own_at s c.args.outer.now.own) in
      let ls = c.args.locals.now in
      let S : (ℕ → Term) → LocalTypes = λ s. scope_at s ls in
      let n = count c.args.state.now in
      let i = c.loop-item.item-index in
      let e = c.item-item.result in
      let es = c.args.items.now in
      let one = retyped N ls c.loop-item.locals e e c.args.target c.loop-item.invariant.locals (λ i. e) c.in_ok-constrain.ensures.adds in
      subst (λ (ts : Trees). AllType c.args.state.now c.constrain.new.state N S ts c.args.target) (sym (take-trees es i e c.loop-item-test.true c.item-item.is))
      (arm_more N S (fixed c.args.outer.now.context.now n c.args.outer.now.own ls c.requires.own c.requires.locals) c.args.target c.requires.target (trees_in (take i es)) (tree_of e) c.loop-item.invariant.adds one);
  locals = c.in_ok-constrain.ensures.locals ∙ c.loop-item.invariant.locals;
}

pub constrain_items-returns-clause-adds : goal.constrain_items-returns-clause-adds
constrain_items-returns-clause-adds g t c =
    let N : (ℕ → Term) → TypedNames = λ s. meanings_in c.args.outer.now.context.now (own_at s c.args.outer.now.own) in
    let S : (ℕ → Term) → LocalTypes = λ s. scope_at s c.args.locals.now in
    let all : take c.loop-item.item-index c.args.items.now ≡ c.args.items.now = grind (arith, common_steps) in
    subst (λ (es : List Exp). AllType c.args.state.now c.loop-item.state N S (trees_in es) c.args.target) all c.loop-item.invariant.adds

pub constrain_bindings-loop-binding-init : goal.constrain_bindings-loop-binding-init
constrain_bindings-loop-binding-init g t c =
    let N : (ℕ → Term) → TypedNames = λ s. meanings_in c.args.outer.now.context.now (own_at s c.args.outer.now.own) in
    no_bindings N c.args.locals.now

pub constrain_bindings-loop-binding-preserved : goal.constrain_bindings-loop-binding-preserved
constrain_bindings-loop-binding-preserved g t c =
    let N : (ℕ → Term) → TypedNames = λ s. meanings_in c.args.outer.now.context.now (own_at s c.args.outer.now.own) in
    let ls = c.args.locals.now in
    let i = c.loop-binding.binding-index in
    let b = c.binding-item.result in
    let bs = c.args.bindings.now in
    let u = c.in_ok-bound.bound in
    let ms = c.loop-binding.locals in
    let os = c.constrain_pattern.new.locals in
    subst (λ (k : Binders). BindsOf c.args.state.now c.constrain_pattern.new.state ls os N k) (sym (take-binders bs i b c.loop-binding-test.true c.binding-item.is))
    (arm_binding N ls ms os (fixed c.args.outer.now.context.now (count c.args.state.now) c.args.outer.now.own ls c.requires.own c.requires.locals) (binders_in (take i bs)) (pattern_tree b.pattern) (tree_of b.value) u
    c.loop-binding.invariant c.in_ok-bound.ensures.gives c.in_ok-constrain.ensures.adds
    (subst (λ (k : List Local). NamesOf c.constrain.new.state c.constrain_pattern.new.state k os N (pattern_tree b.pattern) u) c.in_ok-constrain.ensures.locals c.in_ok-constrain_pattern.ensures))

pub constrain_bindings-returns : goal.constrain_bindings-returns
constrain_bindings-returns g t c =
    let N : (ℕ → Term) → TypedNames = λ s. meanings_in c.args.outer.now.context.now (own_at s c.args.outer.now.own) in
    let all : take c.loop-binding.binding-index c.args.bindings.now ≡ c.args.bindings.now = grind (arith, common_steps) in
    subst (λ (bs : List Binding). BindsOf c.args.state.now c.loop-binding.state c.args.locals.now c.loop-binding.locals N (binders_in bs)) all c.loop-binding.invariant

pub constrain_values-loop-binding-init : goal.constrain_values-loop-binding-init
constrain_values-loop-binding-init g t c =
    let N : (ℕ → Term) → TypedNames = λ s. meanings_in c.args.outer.now.context.now (own_at s c.args.outer.now.own) in
    let S : (ℕ → Term) → LocalTypes = λ s. scope_at s c.args.locals.now in
    let s1 = c.args.state.now in
    let none = sym c.new-items.ensures.items in
    record {
      gives = subst (λ (vs : List ℕ). ElementsOf s1 s1 N S no_binders vs) none (no_elements N S);
      below = subst (λ (vs : List ℕ). All (λ (w : ℕ). w < count s1) vs) none (All-nil (λ (w : ℕ). w < count s1));
      len = ap length c.new-items.ensures.items;
      locals = λ i. c.args.locals.now;
    }

pub constrain_values-loop-binding-preserved : goal.constrain_values-loop-binding-preserved
constrain_values-loop-binding-preserved g t c =
    let N : (ℕ → Term) → TypedNames = λ s. meanings_in c.args.outer.now.context.now (own_at s c.args.outer.now.own) in
    let ls = c.args.locals.now in
    let S : (ℕ → Term) → LocalTypes = λ s. scope_at s ls in
    let h = c.loop-binding.invariant in
    let i = c.loop-binding.binding-index in
    let b = c.binding-item.result in
    let bs = c.args.bindings.now in
    let v = c.in_ok-item.item in
    let q = c.in_ok-sequence.sequence in
    let n = count c.equate_sequence.new.self in
    let a1 = c.in_ok-sequence.ensures.gives.more in
    let a2 = c.in_ok-item.ensures.gives.more in
    let a3 = c.in_ok-equate_sequence.ensures.more in
    let step = arm_value N S (fixed c.args.outer.now.context.now (count c.args.state.now) c.args.outer.now.own ls c.requires.own c.requires.locals) (binders_in (take i bs)) (pattern_tree b.pattern) (tree_of b.value) c.loop-binding.items.items v q
    h.gives (part_as N ls c.loop-binding.locals b.value b.value q h.locals (λ i. b.value) c.in_ok-sequence.ensures.gives) c.in_ok-item.ensures.gives c.in_ok-equate_sequence.ensures in
    record {
      gives = subst (λ (vs : List ℕ). ElementsOf c.args.state.now c.equate_sequence.new.self N S (binders_in (take (i + 1) bs)) vs) (sym c.in_ok-push.ensures.items)
          (subst (λ (k : Binders). ElementsOf c.args.state.now c.equate_sequence.new.self N S k (c.loop-binding.items.items ++ v ∷ [])) (sym (take-binders bs i b c.loop-binding-test.true c.binding-item.is)) step);
      below = subst (λ (vs : List ℕ). All (λ (w : ℕ). w < n) vs) (sym c.in_ok-push.ensures.items)
          (All-push (λ (w : ℕ). w < n) c.loop-binding.items.items v (All-weaker (λ (w : ℕ). w < count c.loop-binding.state) (λ (w : ℕ). w < n) (λ w k. omega arith) c.loop-binding.items.items h.below) (let l = c.in_ok-item.ensures.below in omega arith));
      len = ap length c.in_ok-push.ensures.items ∙ length-append c.loop-binding.items.items (v ∷ []) ∙ ap (λ (k : ℕ). k + 1) h.len;
      locals = c.in_ok-sequence.ensures.locals ∙ h.locals;
    }

pub constrain_values-returns-clause-gives : goal.constrain_values-returns-clause-gives
constrain_values-returns-clause-gives g t c =
    let N : (ℕ → Term) → TypedNames = λ s. meanings_in c.args.outer.now.context.now (own_at s c.args.outer.now.own) in
    let S : (ℕ → Term) → LocalTypes = λ s. scope_at s c.args.locals.now in
    let all : take c.loop-binding.binding-index c.args.bindings.now ≡ c.args.bindings.now = grind (arith, common_steps) in
    subst (λ (bs : List Binding). ElementsOf c.args.state.now c.loop-binding.state N S (binders_in bs) c.loop-binding.items.items) all c.loop-binding.invariant.gives

pub constrain-returns-in-Number-clause-adds : goal.constrain-returns-in-Number-clause-adds
constrain-returns-in-Number-clause-adds g t c =
    let N : (ℕ → Term) → TypedNames = λ s. meanings_in c.args.outer.now.context.now (own_at s c.args.outer.now.own) in
    let ls = c.args.locals.now in
    let S : (ℕ → Term) → LocalTypes = λ s. scope_at s ls in
    let v = c.args.target in
    let e = c.args.exp.now in
    typed _ _ N S e (declared.Number c.in-Number.field-0) (trees.number c.in-Number.field-0) v c.equate_flat.result c.in-Number.is refl
    c.equate_flat.ensures

pub constrain-returns-in-Truth-clause-adds : goal.constrain-returns-in-Truth-clause-adds
constrain-returns-in-Truth-clause-adds g t c =
    let N : (ℕ → Term) → TypedNames = λ s. meanings_in c.args.outer.now.context.now (own_at s c.args.outer.now.own) in
    let ls = c.args.locals.now in
    let S : (ℕ → Term) → LocalTypes = λ s. scope_at s ls in
    let v = c.args.target in
    let e = c.args.exp.now in
    typed _ _ N S e (declared.Truth c.in-Truth.field-0) (trees.truth c.in-Truth.field-0) v c.equate_flat-in-Truth.result c.in-Truth.is refl
    c.equate_flat-in-Truth.ensures

pub constrain-returns-in-Character-clause-adds : goal.constrain-returns-in-Character-clause-adds
constrain-returns-in-Character-clause-adds g t c =
    let N : (ℕ → Term) → TypedNames = λ s. meanings_in c.args.outer.now.context.now (own_at s c.args.outer.now.own) in
    let ls = c.args.locals.now in
    let S : (ℕ → Term) → LocalTypes = λ s. scope_at s ls in
    let v = c.args.target in
    let e = c.args.exp.now in
    typed _ _ N S e (declared.Character c.in-Character.field-0) (trees.character c.in-Character.field-0) v c.equate_flat-in-Character.result c.in-Character.is refl
    c.equate_flat-in-Character.ensures

pub constrain-returns-in-Text-clause-adds : goal.constrain-returns-in-Text-clause-adds
constrain-returns-in-Text-clause-adds g t c =
    let N : (ℕ → Term) → TypedNames = λ s. meanings_in c.args.outer.now.context.now (own_at s c.args.outer.now.own) in
    let ls = c.args.locals.now in
    let S : (ℕ → Term) → LocalTypes = λ s. scope_at s ls in
    let v = c.args.target in
    let e = c.args.exp.now in
    typed _ _ N S e (declared.Text c.in-Text.field-0) (trees.text c.in-Text.field-0.items) v c.is_text.result c.in-Text.is refl
    c.is_text.ensures

pub constrain-returns-in-Variable-clause-adds : goal.constrain-returns-in-Variable-clause-adds
constrain-returns-in-Variable-clause-adds g t c =
    let N : (ℕ → Term) → TypedNames = λ s. meanings_in c.args.outer.now.context.now (own_at s c.args.outer.now.own) in
    let ls = c.args.locals.now in
    let S : (ℕ → Term) → LocalTypes = λ s. scope_at s ls in
    let v = c.args.target in
    let e = c.args.exp.now in
    typed _ _ N S e (declared.Variable c.in-Variable.name) (trees.variable c.in-Variable.name.letters.items) v c.constrain_variable.result c.in-Variable.is refl
    (subst (λ (x : List ℕ). OnOk c.constrain_variable.result (Adds c.args.state.now c.constrain_variable.new.state (λ s of. IsVariable (bounded (N s) of) x (local_type x (scope_at s ls)) (s v)))) c.as_slice.ensures.value c.constrain_variable.ensures)

pub constrain-returns-in-Element-clause-adds : goal.constrain-returns-in-Element-clause-adds
constrain-returns-in-Element-clause-adds g t c =
    let N : (ℕ → Term) → TypedNames = λ s. meanings_in c.args.outer.now.context.now (own_at s c.args.outer.now.own) in
    let ls = c.args.locals.now in
    let S : (ℕ → Term) → LocalTypes = λ s. scope_at s ls in
    let v = c.args.target in
    let e = c.args.exp.now in
    typed _ _ N S e declared.Element trees.element v c.constrain_element.result c.in-Element.is refl
    c.constrain_element.ensures

pub constrain-returns-in-Empty-clause-adds : goal.constrain-returns-in-Empty-clause-adds
constrain-returns-in-Empty-clause-adds g t c =
    let N : (ℕ → Term) → TypedNames = λ s. meanings_in c.args.outer.now.context.now (own_at s c.args.outer.now.own) in
    let ls = c.args.locals.now in
    let S : (ℕ → Term) → LocalTypes = λ s. scope_at s ls in
    let v = c.args.target in
    let e = c.args.exp.now in
    typed _ _ N S e (declared.Empty c.in-Empty.written) (trees.empty (type_tree c.deref-in-Empty.result.now)) v c.constrain_empty.result c.in-Empty.is
    (ap (λ (a : TypeExp). trees.empty (type_tree a)) (sym c.deref-in-Empty.ensures)) c.constrain_empty.ensures

pub constrain-returns-in_ok-given-in-Call-clause-adds : goal.constrain-returns-in_ok-given-in-Call-clause-adds
constrain-returns-in_ok-given-in-Call-clause-adds g t c =
    let N : (ℕ → Term) → TypedNames = λ s. meanings_in c.args.outer.now.context.now (own_at s c.args.outer.now.own) in
    let ls = c.args.locals.now in
    let S : (ℕ → Term) → LocalTypes = λ s. scope_at s ls in
    let f = fixed c.args.outer.now.context.now (count c.args.state.now) c.args.outer.now.own ls c.requires.own c.requires.locals in
    let v = c.args.target in
    let e = c.args.exp.now in
    let a = c.in-Call.argument.value in
    let u = c.in_ok-given-in-Call.given in
    typed _ _ N S e (declared.Call c.in-Call.name c.in-Call.argument) (trees.call c.in-Call.name.letters.items (tree_of a)) v c.constrain_call.result c.in-Call.is refl
    (on_ok_weaker c.constrain_call.result (arm_call N S f v c.requires.target c.in-Call.name.letters.items (tree_of a) u
    (part_as N ls ls a c.deref.result.now u (λ i. ls) c.deref.ensures c.in_ok-given-in-Call.ensures.gives))
    (subst (λ (x : List ℕ). OnOk c.constrain_call.result (Applies c.constrain_part.new.state c.constrain_call.new.state N x u v)) c.as_slice-in-Call.ensures.value c.constrain_call.ensures))

pub constrain-returns-in_ok-right-in-Pair-clause-adds : goal.constrain-returns-in_ok-right-in-Pair-clause-adds
constrain-returns-in_ok-right-in-Pair-clause-adds g t c =
    let N : (ℕ → Term) → TypedNames = λ s. meanings_in c.args.outer.now.context.now (own_at s c.args.outer.now.own) in
    let ls = c.args.locals.now in
    let S : (ℕ → Term) → LocalTypes = λ s. scope_at s ls in
    let f = fixed c.args.outer.now.context.now (count c.args.state.now) c.args.outer.now.own ls c.requires.own c.requires.locals in
    let v = c.args.target in
    let e = c.args.exp.now in
    let a = c.in-Pair.first.value in
    let b = c.in-Pair.second.value in
    let l = c.in_ok-left-in-Pair.left in
    let r = c.in_ok-right-in-Pair.right in
    typed _ _ N S e (declared.Pair c.in-Pair.first c.in-Pair.second) (trees.pair (tree_of a) (tree_of b)) v c.equate_pair.result c.in-Pair.is refl
    (on_ok_weaker c.equate_pair.result (arm_pair N S f v c.requires.target (tree_of a) (tree_of b) l r
    (part_as N ls ls a c.deref-in-Pair.result.now l (λ i. ls) c.deref-in-Pair.ensures c.in_ok-left-in-Pair.ensures.gives)
    (part_as N ls c.constrain_part-in-Pair.new.locals b c.deref-in-Pair-2.result.now r c.in_ok-left-in-Pair.ensures.locals c.deref-in-Pair-2.ensures c.in_ok-right-in-Pair.ensures.gives))
    c.equate_pair.ensures)

pub constrain-returns-in_ok-given-in-Prefix-clause-adds : goal.constrain-returns-in_ok-given-in-Prefix-clause-adds
constrain-returns-in_ok-given-in-Prefix-clause-adds g t c =
    let N : (ℕ → Term) → TypedNames = λ s. meanings_in c.args.outer.now.context.now (own_at s c.args.outer.now.own) in
    let ls = c.args.locals.now in
    let S : (ℕ → Term) → LocalTypes = λ s. scope_at s ls in
    let f = fixed c.args.outer.now.context.now (count c.args.state.now) c.args.outer.now.own ls c.requires.own c.requires.locals in
    let v = c.args.target in
    let e = c.args.exp.now in
    let a = c.in-Prefix.operand.value in
    let u = c.in_ok-given-in-Prefix.given in
    typed _ _ N S e (declared.Prefix c.in-Prefix.prefix c.in-Prefix.operand) (trees.prefix_of c.in-Prefix.prefix (tree_of a)) v c.constrain_builtin.result c.in-Prefix.is refl
    (on_ok_weaker c.constrain_builtin.result (arm_prefix N S f v c.requires.target c.in-Prefix.prefix (tree_of a) u
    (part_as N ls ls a c.deref-in-Prefix.result.now u (λ i. ls) c.deref-in-Prefix.ensures c.in_ok-given-in-Prefix.ensures.gives))
    (subst (λ (b : Builtin). OnOk c.constrain_builtin.result (Adds c.constrain_part-in-Prefix.new.state c.constrain_builtin.new.state (λ s of. IsInstanceOf (builtin_type b) of (s u) (s v)))) c.of_prefix.ensures c.constrain_builtin.ensures))

pub constrain-returns-in_ok-right-in-Infix-clause-adds : goal.constrain-returns-in_ok-right-in-Infix-clause-adds
constrain-returns-in_ok-right-in-Infix-clause-adds g t c =
    let N : (ℕ → Term) → TypedNames = λ s. meanings_in c.args.outer.now.context.now (own_at s c.args.outer.now.own) in
    let ls = c.args.locals.now in
    let S : (ℕ → Term) → LocalTypes = λ s. scope_at s ls in
    let f = fixed c.args.outer.now.context.now (count c.args.state.now) c.args.outer.now.own ls c.requires.own c.requires.locals in
    let v = c.args.target in
    let e = c.args.exp.now in
    let a = c.in-Infix.first.value in
    let b = c.in-Infix.second.value in
    let l = c.in_ok-left-in-Infix.left in
    let r = c.in_ok-right-in-Infix.right in
    typed _ _ N S e (declared.Infix c.in-Infix.operator c.in-Infix.first c.in-Infix.second) (trees.infix_of c.in-Infix.operator (tree_of a) (tree_of b)) v c.constrain_operator.result c.in-Infix.is refl
    (on_ok_weaker c.constrain_operator.result (arm_infix N S f v c.requires.target c.in-Infix.operator (tree_of a) (tree_of b) l r
    (part_as N ls ls a c.deref-in-Infix.result.now l (λ i. ls) c.deref-in-Infix.ensures c.in_ok-left-in-Infix.ensures.gives)
    (part_as N ls c.constrain_part-in-Infix.new.locals b c.deref-in-Infix-2.result.now r c.in_ok-left-in-Infix.ensures.locals c.deref-in-Infix-2.ensures c.in_ok-right-in-Infix.ensures.gives))
    (subst (λ (k : Builtin). OnOk c.constrain_operator.result (Adds c.constrain_part-in-Infix-2.new.state c.constrain_operator.new.state (λ s of. IsInstanceOf (builtin_type k) of (pair_of (s l) (s r)) (s v)))) c.of_infix.ensures c.constrain_operator.ensures))

pub constrain-returns-in_ok-constrain_exactly-in-Index-clause-adds : goal.constrain-returns-in_ok-constrain_exactly-in-Index-clause-adds
constrain-returns-in_ok-constrain_exactly-in-Index-clause-adds g t c =
    let N : (ℕ → Term) → TypedNames = λ s. meanings_in c.args.outer.now.context.now (own_at s c.args.outer.now.own) in
    let ls = c.args.locals.now in
    let S : (ℕ → Term) → LocalTypes = λ s. scope_at s ls in
    let f = fixed c.args.outer.now.context.now (count c.args.state.now) c.args.outer.now.own ls c.requires.own c.requires.locals in
    let v = c.args.target in
    let e = c.args.exp.now in
    let a = c.in-Index.sequence.value in
    let b = c.in-Index.place.value in
    let j = c.in_ok-items-in-Index.items in
    typed _ _ N S e (declared.Index c.in-Index.sequence c.in-Index.place) (trees.index (tree_of a) (tree_of b)) v c.equate_sequence.result c.in-Index.is refl
    (on_ok_weaker c.equate_sequence.result (arm_index N S f v c.requires.target (tree_of a) (tree_of b) j
    (part_as N ls ls a c.deref-in-Index.result.now j (λ i. ls) c.deref-in-Index.ensures c.in_ok-items-in-Index.ensures.gives)
    (exactly_as N ls c.constrain_part-in-Index.new.locals b c.deref-in-Index-2.result.now int c.in_ok-items-in-Index.ensures.locals c.deref-in-Index-2.ensures c.in_ok-constrain_exactly-in-Index.ensures.adds))
    c.equate_sequence.ensures)

pub constrain-returns-in_ok-constrain-in-Choice-clause-adds : goal.constrain-returns-in_ok-constrain-in-Choice-clause-adds
constrain-returns-in_ok-constrain-in-Choice-clause-adds g t c =
    let N : (ℕ → Term) → TypedNames = λ s. meanings_in c.args.outer.now.context.now (own_at s c.args.outer.now.own) in
    let ls = c.args.locals.now in
    let S : (ℕ → Term) → LocalTypes = λ s. scope_at s ls in
    let f = fixed c.args.outer.now.context.now (count c.args.state.now) c.args.outer.now.own ls c.requires.own c.requires.locals in
    let v = c.args.target in
    let e = c.args.exp.now in
    let a = c.in-Choice.test.value in
    let b = c.in-Choice.first.value in
    let d = c.in-Choice.second.value in
    typed _ _ N S e (declared.Choice c.in-Choice.test c.in-Choice.first c.in-Choice.second) (trees.choice (tree_of a) (tree_of b) (tree_of d)) v c.constrain-in-Choice.result c.in-Choice.is refl
    (on_ok_weaker c.constrain-in-Choice.result (arm_choice N S f v c.requires.target (tree_of a) (tree_of b) (tree_of d)
    (exactly_as N ls ls a c.deref-in-Choice.result.now bool (λ i. ls) c.deref-in-Choice.ensures c.in_ok-constrain_exactly-in-Choice.ensures.adds)
    (retyped N ls c.constrain_exactly-in-Choice.new.locals b c.deref-in-Choice-2.result.now v c.in_ok-constrain_exactly-in-Choice.ensures.locals c.deref-in-Choice-2.ensures c.in_ok-constrain-in-Choice.ensures.adds))
    (on_ok_weaker c.constrain-in-Choice.result
    (retyped N ls c.constrain.new.locals d c.deref-in-Choice-3.result.now v (c.in_ok-constrain-in-Choice.ensures.locals ∙ c.in_ok-constrain_exactly-in-Choice.ensures.locals) c.deref-in-Choice-3.ensures)
    c.constrain-in-Choice.ensures.adds))

pub constrain-returns-in_ok-constrain_items-in-Sequence-clause-adds : goal.constrain-returns-in_ok-constrain_items-in-Sequence-clause-adds
constrain-returns-in_ok-constrain_items-in-Sequence-clause-adds g t c =
    let N : (ℕ → Term) → TypedNames = λ s. meanings_in c.args.outer.now.context.now (own_at s c.args.outer.now.own) in
    let ls = c.args.locals.now in
    let S : (ℕ → Term) → LocalTypes = λ s. scope_at s ls in
    let f = fixed c.args.outer.now.context.now (count c.args.state.now) c.args.outer.now.own ls c.requires.own c.requires.locals in
    let v = c.args.target in
    let e = c.args.exp.now in
    let i = c.in_ok-item-in-Sequence.item in
    let es = c.in-Sequence.items.items in
    let A = c.args.state.now in
    let C = c.equate_sequence-in-Sequence.new.self in
    subst (λ (k : Shape). OnOk c.equate_sequence-in-Sequence.result (Types A C N S (node e.span k) v)) (sym (ap shape_of c.in-Sequence.is ∙ sequence_shape c.in-Sequence.items))
    (on_ok_weaker c.equate_sequence-in-Sequence.result (arm_sequence N S f e.span v c.requires.target (trees_in es) i c.in_ok-item-in-Sequence.ensures.gives
    (subst (λ (x : List Exp). AllType c.add_any.new.self c.constrain_items.new.state N S (trees_in x) i) c.as_slice-in-Sequence.ensures.value c.in_ok-constrain_items-in-Sequence.ensures.adds))
    c.equate_sequence-in-Sequence.ensures)

pub constrain-returns-in_ok-number-in-Range-clause-adds : goal.constrain-returns-in_ok-number-in-Range-clause-adds
constrain-returns-in_ok-number-in-Range-clause-adds g t c =
    let N : (ℕ → Term) → TypedNames = λ s. meanings_in c.args.outer.now.context.now (own_at s c.args.outer.now.own) in
    let ls = c.args.locals.now in
    let S : (ℕ → Term) → LocalTypes = λ s. scope_at s ls in
    let f = fixed c.args.outer.now.context.now (count c.args.state.now) c.args.outer.now.own ls c.requires.own c.requires.locals in
    let v = c.args.target in
    let e = c.args.exp.now in
    let a = c.in-Range.start.value in
    let b = c.in-Range.end.value in
    let n = c.in_ok-number-in-Range.number in
    typed _ _ N S e (declared.Range c.in-Range.start c.in-Range.end) (trees.range (tree_of a) (tree_of b)) v c.equate_sequence-in-Range.result c.in-Range.is refl
    (on_ok_weaker c.equate_sequence-in-Range.result (arm_range N S f v c.requires.target (tree_of a) (tree_of b) n
    (bounds_as N S a b c.deref-in-Range.result.now c.deref-in-Range-2.result.now n c.deref-in-Range.ensures c.deref-in-Range-2.ensures c.in_ok-number-in-Range.ensures.gives))
    c.equate_sequence-in-Range.ensures)

pub constrain-returns-in_ok-constrain-in-StridedRange-clause-adds : goal.constrain-returns-in_ok-constrain-in-StridedRange-clause-adds
constrain-returns-in_ok-constrain-in-StridedRange-clause-adds g t c =
    let N : (ℕ → Term) → TypedNames = λ s. meanings_in c.args.outer.now.context.now (own_at s c.args.outer.now.own) in
    let ls = c.args.locals.now in
    let S : (ℕ → Term) → LocalTypes = λ s. scope_at s ls in
    let f = fixed c.args.outer.now.context.now (count c.args.state.now) c.args.outer.now.own ls c.requires.own c.requires.locals in
    let v = c.args.target in
    let e = c.args.exp.now in
    let a = c.in-StridedRange.start.value in
    let b = c.in-StridedRange.end.value in
    let d = c.in-StridedRange.step.value in
    let n = c.in_ok-number-in-StridedRange.number in
    typed _ _ N S e (declared.StridedRange c.in-StridedRange.start c.in-StridedRange.end c.in-StridedRange.step) (trees.strided_range (tree_of a) (tree_of b) (tree_of d)) v c.equate_sequence-in-StridedRange.result c.in-StridedRange.is refl
    (on_ok_weaker c.equate_sequence-in-StridedRange.result (arm_strided_range N S f v c.requires.target (tree_of a) (tree_of b) (tree_of d) n
    (bounds_as N S a b c.deref-in-StridedRange.result.now c.deref-in-StridedRange-2.result.now n c.deref-in-StridedRange.ensures c.deref-in-StridedRange-2.ensures c.in_ok-number-in-StridedRange.ensures.gives)
    (retyped N ls c.constrain_bounds-in-StridedRange.new.locals d c.deref-in-StridedRange-3.result.now n c.in_ok-number-in-StridedRange.ensures.locals c.deref-in-StridedRange-3.ensures c.in_ok-constrain-in-StridedRange.ensures.adds))
    c.equate_sequence-in-StridedRange.ensures)

pub constrain-returns-in-Let-clause-adds : goal.constrain-returns-in-Let-clause-adds
constrain-returns-in-Let-clause-adds g t c =
    let N : (ℕ → Term) → TypedNames = λ s. meanings_in c.args.outer.now.context.now (own_at s c.args.outer.now.own) in
    let ls = c.args.locals.now in
    let S : (ℕ → Term) → LocalTypes = λ s. scope_at s ls in
    let v = c.args.target in
    let e = c.args.exp.now in
    let bs = c.as_slice-in-Let.result.now in
    let d = c.deref-in-Let.result.now in
    typed _ _ N S e (declared.Let c.in-Let.bindings c.in-Let.body) (trees.let_in (binders_in bs) (tree_of d)) v c.constrain_let.result c.in-Let.is
    (let_shape c.in-Let.bindings c.in-Let.body ∙ ap (λ (k : List Binding). trees.let_in (binders_in k) (tree_of c.in-Let.body.value)) (sym c.as_slice-in-Let.ensures.value) ∙ ap (λ (k : Exp). trees.let_in (binders_in bs) (tree_of k)) (sym c.deref-in-Let.ensures))
    c.constrain_let.ensures.adds

pub constrain-returns-in-Each-clause-adds : goal.constrain-returns-in-Each-clause-adds
constrain-returns-in-Each-clause-adds g t c =
    let N : (ℕ → Term) → TypedNames = λ s. meanings_in c.args.outer.now.context.now (own_at s c.args.outer.now.own) in
    let ls = c.args.locals.now in
    let S : (ℕ → Term) → LocalTypes = λ s. scope_at s ls in
    let v = c.args.target in
    let e = c.args.exp.now in
    let bs = c.as_slice-in-Each.result.now in
    let d = c.deref-in-Each.result.now in
    typed _ _ N S e (declared.Each c.in-Each.body c.in-Each.bindings) (trees.each (tree_of d) (binders_in bs)) v c.constrain_each.result c.in-Each.is
    (each_shape c.in-Each.body c.in-Each.bindings ∙ ap (λ (k : List Binding). trees.each (tree_of c.in-Each.body.value) (binders_in k)) (sym c.as_slice-in-Each.ensures.value) ∙ ap (λ (k : Exp). trees.each (tree_of k) (binders_in bs)) (sym c.deref-in-Each.ensures))
    c.constrain_each.ensures.adds

pub constrain-returns-in_ok-item-in-FilteredEach-clause-adds : goal.constrain-returns-in_ok-item-in-FilteredEach-clause-adds
constrain-returns-in_ok-item-in-FilteredEach-clause-adds g t c =
    let N : (ℕ → Term) → TypedNames = λ s. meanings_in c.args.outer.now.context.now (own_at s c.args.outer.now.own) in
    let ls = c.args.locals.now in
    let S : (ℕ → Term) → LocalTypes = λ s. scope_at s ls in
    let v = c.args.target in
    let e = c.args.exp.now in
    let bs = c.as_slice-in-FilteredEach.result.now in
    let d = c.deref-in-FilteredEach.result.now in
    let h = c.deref-in-FilteredEach-2.result.now in
    typed _ _ N S e (declared.FilteredEach c.in-FilteredEach.body c.in-FilteredEach.bindings c.in-FilteredEach.filter) (trees.filtered_each (tree_of d) (binders_in bs) (tree_of h)) v c.equate_sequence-in-FilteredEach.result c.in-FilteredEach.is
    (filtered_shape c.in-FilteredEach.body c.in-FilteredEach.bindings c.in-FilteredEach.filter
    ∙ ap (λ (k : List Binding). trees.filtered_each (tree_of c.in-FilteredEach.body.value) (binders_in k) (tree_of c.in-FilteredEach.filter.value)) (sym c.as_slice-in-FilteredEach.ensures.value)
    ∙ ap (λ (k : Exp). trees.filtered_each (tree_of k) (binders_in bs) (tree_of c.in-FilteredEach.filter.value)) (sym c.deref-in-FilteredEach.ensures)
    ∙ ap (λ (k : Exp). trees.filtered_each (tree_of d) (binders_in bs) (tree_of k)) (sym c.deref-in-FilteredEach-2.ensures))
    (on_ok_weaker c.equate_sequence-in-FilteredEach.result (arm_filtered_each N S v c.requires.target (tree_of d) (binders_in bs) (tree_of h) c.in_ok-item-in-FilteredEach.item c.in_ok-item-in-FilteredEach.ensures.gives)
    c.equate_sequence-in-FilteredEach.ensures)

pub constrain_part-returns-in-Some-clause-gives : goal.constrain_part-returns-in-Some-clause-gives
constrain_part-returns-in-Some-clause-gives g t c =
    let N : (ℕ → Term) → TypedNames = λ s. meanings_in c.args.outer.now.context.now (own_at s c.args.outer.now.own) in
    let ls = c.args.locals.now in
    let h = c.in-Some.ensures in
    part_local N (λ s. scope_at s ls) c.args.exp.now h.found.0 c.in-Some.variable h.found.1 h.found.2 (h.below (count c.args.state.now) c.requires.locals)

pub constrain_part-returns-in-Some-clause-below : goal.constrain_part-returns-in-Some-clause-below
constrain_part-returns-in-Some-clause-below g t c = c.in-Some.ensures.below (count c.args.state.now) c.requires.locals

pub constrain_part-returns-clause-gives : goal.constrain_part-returns-clause-gives
constrain_part-returns-clause-gives g t c =
    let N : (ℕ → Term) → TypedNames = λ s. meanings_in c.args.outer.now.context.now (own_at s c.args.outer.now.own) in
    let ls = c.args.locals.now in
    let S : (ℕ → Term) → LocalTypes = λ s. scope_at s ls in
    let f = fixed c.args.outer.now.context.now (count c.args.state.now) c.args.outer.now.own ls c.requires.own c.requires.locals in
    arm_part N S f (tree_of c.args.exp.now) c.in_ok-part.part c.in_ok-part.ensures.gives c.in_ok-constrain.ensures.adds

pub constrain_exactly-returns-clause-adds : goal.constrain_exactly-returns-clause-adds
constrain_exactly-returns-clause-adds g t c =
    let N : (ℕ → Term) → TypedNames = λ s. meanings_in c.args.outer.now.context.now (own_at s c.args.outer.now.own) in
    let ls = c.args.locals.now in
    let S : (ℕ → Term) → LocalTypes = λ s. scope_at s ls in
    let f = fixed c.args.outer.now.context.now (count c.args.state.now) c.args.outer.now.own ls c.requires.own c.requires.locals in
    on_ok_weaker c.constrain.result (arm_exactly N S f (tree_of c.args.exp.now) (flat_type c.args.flat) c.in_ok-part.part c.in_ok-part.ensures.gives) c.constrain.ensures.adds

pub constrain_bounds-returns-clause-gives : goal.constrain_bounds-returns-clause-gives
constrain_bounds-returns-clause-gives g t c =
    let N : (ℕ → Term) → TypedNames = λ s. meanings_in c.args.outer.now.context.now (own_at s c.args.outer.now.own) in
    let ls = c.args.locals.now in
    let S : (ℕ → Term) → LocalTypes = λ s. scope_at s ls in
    let f = fixed c.args.outer.now.context.now (count c.args.state.now) c.args.outer.now.own ls c.requires.own c.requires.locals in
    let a = c.args.from.now in
    let b = c.args.to.now in
    let n = c.in_ok-number.number in
    arm_bounds N S f (tree_of a) (tree_of b) n c.in_ok-number.ensures.gives c.in_ok-constrain.ensures.adds
    (retyped N ls c.constrain.new.locals b b n c.in_ok-constrain.ensures.locals (λ i. b) c.in_ok-constrain-2.ensures.adds)

pub constrain_binders-returns : goal.constrain_binders-returns
constrain_binders-returns g t c =
    let N : (ℕ → Term) → TypedNames = λ s. meanings_in c.args.outer.now.context.now (own_at s c.args.outer.now.own) in
    let ls = c.args.locals.now in
    let S : (ℕ → Term) → LocalTypes = λ s. scope_at s ls in
    let f = fixed c.args.outer.now.context.now (count c.args.state.now) c.args.outer.now.own ls c.requires.own c.requires.locals in
    let bs = binders_in c.args.bindings.now in
    let vs = c.in_ok-items.items.items in
    let r = c.bind_items.result in
    let B = c.constrain_values.new.state in
    let C = c.bind_items.new.state in
    let ms = c.bind_items.new.locals in
    on_ok_weaker r (arm_binders N ls ms f bs vs c.in_ok-items.ensures.gives)
    (subst (λ (k : List Local). OnOk r (DrawsOf B C k ms N bs vs)) c.in_ok-items.ensures.locals
    (subst (λ (k : List ℕ). OnOk r (DrawsOf B C c.constrain_values.new.locals ms N bs k)) c.as_slice.ensures.value c.bind_items.ensures))

pub constrain_let-returns-clause-adds : goal.constrain_let-returns-clause-adds
constrain_let-returns-clause-adds g t c =
    let N : (ℕ → Term) → TypedNames = λ s. meanings_in c.args.outer.now.context.now (own_at s c.args.outer.now.own) in
    let ls = c.args.locals.now in
    let S : (ℕ → Term) → LocalTypes = λ s. scope_at s ls in
    let f = fixed c.args.outer.now.context.now (count c.args.state.now) c.args.outer.now.own ls c.requires.own c.requires.locals in
    let v = c.args.target in
    arm_let N ls c.constrain_bindings.new.locals f v c.requires.target (binders_in c.args.bindings.now) (tree_of c.args.body.now) c.in_ok-constrain_bindings.ensures c.in_ok-constrain.ensures.adds

pub constrain_each-returns-clause-adds : goal.constrain_each-returns-clause-adds
constrain_each-returns-clause-adds g t c =
    let N : (ℕ → Term) → TypedNames = λ s. meanings_in c.args.outer.now.context.now (own_at s c.args.outer.now.own) in
    let ls = c.args.locals.now in
    let S : (ℕ → Term) → LocalTypes = λ s. scope_at s ls in
    let f = fixed c.args.outer.now.context.now (count c.args.state.now) c.args.outer.now.own ls c.requires.own c.requires.locals in
    let v = c.args.target in
    on_ok_weaker c.equate_sequence.result (arm_each N ls c.constrain_binders.new.locals f v c.requires.target (tree_of c.args.body.now) (binders_in c.args.bindings.now) c.in_ok-item.item c.in_ok-constrain_binders.ensures c.in_ok-item.ensures.gives)
    c.equate_sequence.ensures

pub constrain_filtered_items-returns-clause-gives : goal.constrain_filtered_items-returns-clause-gives
constrain_filtered_items-returns-clause-gives g t c =
    let N : (ℕ → Term) → TypedNames = λ s. meanings_in c.args.outer.now.context.now (own_at s c.args.outer.now.own) in
    let ls = c.args.locals.now in
    let f = fixed c.args.outer.now.context.now (count c.args.state.now) c.args.outer.now.own ls c.requires.own c.requires.locals in
    let ms = c.constrain_binders.new.locals in
    let d = c.args.filter.now in
    arm_filtered_items N ls ms f (tree_of c.args.body.now) (binders_in c.args.bindings.now) (tree_of d) c.in_ok-item.item c.in_ok-constrain_binders.ensures c.in_ok-item.ensures.gives
    (exactly_as N ms c.constrain_part.new.locals d d bool c.in_ok-item.ensures.locals (λ i. d) c.in_ok-constrain_exactly.ensures.adds)

pub constrain-constrain_operator-requires-clause-pair : goal.constrain-constrain_operator-requires-clause-pair
constrain-constrain_operator-requires-clause-pair g t c =
    subst (λ (b : Builtin). (x : Term) × (y : Term) × ((builtin_type b).argument ≡ pair_of x y)) (sym c.of_infix.ensures) (infix_pair c.in-Infix.operator)

pub constrain-constrain_filtered_items-requires : goal.constrain-constrain_filtered_items-requires
constrain-constrain_filtered_items-requires g t c =
    let falls = filtered_falls c.args.exp.now c.in-FilteredEach.body c.in-FilteredEach.bindings c.in-FilteredEach.filter c.in-FilteredEach.is in
    let body = ap exp.the_size c.deref-in-FilteredEach.ensures in
    let binders = ap deepest_binding c.as_slice-in-FilteredEach.ensures.value in
    let filter = ap exp.the_size c.deref-in-FilteredEach-2.ensures in
    λ κs l. (omega (arith, c.decreases, falls, body, binders, filter), (search rules, (c.requires.locals, c.requires.own)))

pub constrain_each-constrain_binders-requires : goal.constrain_each-constrain_binders-requires
constrain_each-constrain_binders-requires g t c =
    λ κs l. (omega (arith, c.decreases), (search rules, (c.requires.locals, c.requires.own)))

pub constrain_each-constrain_part-requires : goal.constrain_each-constrain_part-requires
constrain_each-constrain_part-requires g t c =
    let ls = c.args.locals.now in
    let B = c.constrain_binders.new.state in
    let ms = c.constrain_binders.new.locals in
    let below : AreLocalsBelow (count B) ms = added_below ls ms _ c.requires.locals c.in_ok-constrain_binders.ensures in
    λ κs l. (omega (arith, c.decreases), (search rules, (below, search rules)))

pub constrain_filtered_items-constrain_binders-requires : goal.constrain_filtered_items-constrain_binders-requires
constrain_filtered_items-constrain_binders-requires g t c =
    λ κs l. (omega (arith, c.decreases), (search rules, (c.requires.locals, c.requires.own)))

pub constrain_filtered_items-constrain_part-requires : goal.constrain_filtered_items-constrain_part-requires
constrain_filtered_items-constrain_part-requires g t c =
    let ls = c.args.locals.now in
    let B = c.constrain_binders.new.state in
    let ms = c.constrain_binders.new.locals in
    let below : AreLocalsBelow (count B) ms = added_below ls ms _ c.requires.locals c.in_ok-constrain_binders.ensures in
    λ κs l. (omega (arith, c.decreases), (search rules, (below, search rules)))

pub constrain_filtered_items-constrain_exactly-requires : goal.constrain_filtered_items-constrain_exactly-requires
constrain_filtered_items-constrain_exactly-requires g t c =
    let ls = c.args.locals.now in
    let B = c.constrain_binders.new.state in
    let ms = c.constrain_binders.new.locals in
    let below : AreLocalsBelow (count B) ms = added_below ls ms _ c.requires.locals c.in_ok-constrain_binders.ensures in
    let m = c.in_ok-item.ensures.gives.more in
    let n = count c.constrain_part.new.state in
    let here : AreLocalsBelow n c.constrain_part.new.locals =
    subst (λ (xs : List Local). AreLocalsBelow n xs) (sym c.in_ok-item.ensures.locals) (locals-weaker (count B) n ms m below) in
    λ κs l. (omega (arith, c.decreases), (search rules, (search rules, (search rules, (here, search rules)))))

pub constrain_let-constrain-requires : goal.constrain_let-constrain-requires
constrain_let-constrain-requires g t c =
    let ls = c.args.locals.now in
    let B = c.constrain_bindings.new.state in
    let ms = c.constrain_bindings.new.locals in
    let below : AreLocalsBelow (count B) ms = added_below ls ms _ c.requires.locals c.in_ok-constrain_bindings.ensures in
    λ κs l. (omega (arith, c.decreases), (search rules, (search rules, (below, search rules))))
