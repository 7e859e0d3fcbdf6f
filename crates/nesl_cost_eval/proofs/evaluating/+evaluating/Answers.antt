use Rattle.std.proofs.Common.{◌≡◌, ◌∙◌, ◌+◌, ◌++◌, ◌∷◌, [], append-nil, arith, pos, min, ◌≤◌, to_z, of_z, w64, ap, sym, subst, refl, ℕ, List, Option, Some, Bool, true, false, Result, Ok, Err, Global, length, map, drop, cond, inl, inr}
use Rattle.std.proofs.lemmas.Result.{err_from_is_err_and}
use Rattle.std.specs.List.{range_with_len}
use Rattle.nesl_lex.specs.declared.token.Span.{Span}
use Rattle.nesl_values.specs.Tree as values
use Rattle.nesl_values.specs.View.{tree_of as value_tree}
use Rattle.nesl_values.specs.declared.value.Value as code
use Rattle.nesl_values.specs.declared.value.Value.TheVariants as kinds
use Rattle.nesl_values_builder.specs.Elements.{elements_of}
use Rattle.nesl_syntax_tree.specs.declared.tree.Exp.{Exp}
use Rattle.nesl_syntax_tree.specs.declared.tree.Binding.{Binding}
use Rattle.nesl_syntax_tree.specs.Trees.{Tree, Binders, node}
use Rattle.nesl_syntax_tree.specs.Trees as trees
use Rattle.nesl_syntax_tree.specs.Views.{shape_of, tree_of, trees_in, binders_in, pattern_tree}
use Rattle.nesl_builtins.specs.declared.builtin.Builtin.{Builtin}
use Rattle.nesl_builtins.specs.Named.{builtin_named, look_up}
use Rattle.nesl_eval_meaning.specs.Names.{Name, Value, Scope, bound, outside, with_names}
use Rattle.nesl_eval_meaning.specs.Out as out
use Rattle.nesl_eval_meaning.specs.Outcome.{greatest_number, variable_in, apply_builtin, small_enough, sources, scope_at, place_if_true, body_value}
use Rattle.nesl_eval_code.proofs.Prepared.{read_number, sequence_shape, let_shape, each_shape, filtered_shape, of_two, of_three, of_list}
use Rattle.nesl_eval_nodes.specs.Sides.{places_of, IsKeptPlace}
use Rattle.nesl_cost_meaning.specs.Cost.{free, spent}
use Rattle.nesl_cost_meaning.specs.Traced.{Parts, Traced, value, and_then, given, charged, branch, two_parts, all_parts, all_beside, let_of, at_place, kept_places, body_values, in_bound, at_call}
use Rattle.nesl_cost_rows.specs.Written.{turn, others, called}
use Rattle.nesl_cost_eval.specs.declared.unfinished.Unfinished.{Unfinished}
use Rattle.nesl_cost_eval.specs.declared.unfinished.Unfinished.TheVariants.{Stuck}
use Rattle.nesl_cost_eval.specs.declared.scope.Local.{Local}
use Rattle.nesl_cost_eval.specs.declared.top.Callee.{Callee}
use Rattle.nesl_cost_eval.specs.Scopes.{Calls, locals, scope_of, environment_of, scope_in, parts_of}
use Rattle.nesl_cost_eval.specs.Writes.{Book, Adds, Lacks, Writes, AreValues, ArePlaces, LenIs, book, noted, closed, calling}
use Rattle.nesl_cost_eval.proofs.Running.{IsOf, memory_any, chained, chained_value, stopped, err_same, ok_same, retold, LeadsTo}
use Rattle.nesl_cost_eval.proofs.Lists.{Same, LeadsAll, all_start, all_step, all_stop, all_end, mapped_more, dropped, none_left}
use Rattle.nesl_cost_eval.proofs.Turns.{LeadsTurns, turns_start, turns_step, turns_stop, turns_end}
use Rattle.nesl_cost_eval.proofs.Charging.{OneOf, at_once, deep_stop, entering, not_entered, unpaid, kept_at}
use Rattle.nesl_cost_eval.proofs.Arms.{arm, leaf, chosen, given_some, given_none, in_scope, call_builtin, call_function, call_datatype, call_none, call_unbound, over_done, over_stopped, places_at, finished_end}
use Rattle.nesl_cost_eval.proofs.evaluating.+evaluating.Goals as goal

pub eval-returns-then-at-eq0 : goal.eval-returns-then-at-eq0
eval-returns-then-at-eq0 t c =
    let f = parts_of c.args.at.now in
    let env = environment_of c.args.at.now in
    let sc = scope_in c.args.at.now in
    let a = book c.args.run.now in
    deep_stop c.args.at.now.levels env sc (tree_of c.args.exp.now) c.args.exp.now.span a c.if-at-eq0.true refl

pub eval-returns-in_err-enter : goal.eval-returns-in_err-enter
eval-returns-in_err-enter t c =
    let f = parts_of c.args.at.now in
    let env = environment_of c.args.at.now in
    let sc = scope_in c.args.at.now in
    let a = book c.args.run.now in
    let e = err_from_is_err_and c.from_residual.result c.from_residual.ensures.1 in rw (e.1, e.2) (
    not_entered c.args.at.now.levels env sc (tree_of c.args.exp.now) c.in_err-enter.field-0.0 a (book c.enter.new.self) c.if-at-eq0.false c.in_err-enter.ensures)

pub eval-returns : goal.eval-returns
eval-returns t c =
    let f = parts_of c.args.at.now in
    let env = environment_of c.args.at.now in
    let sc = scope_in c.args.at.now in
    let a = book c.args.run.now in
    entering c.args.at.now.levels env sc (tree_of c.args.exp.now) c.args.exp.now.span c.node.result a (book c.enter.new.self) (book c.node.new.run) c.if-at-eq0.false refl c.in_ok-enter.ensures c.node.ensures

pub node-returns-in-Truth : goal.node-returns-in-Truth
node-returns-in-Truth t c =
    let f = parts_of c.args.at.now in
    let env = environment_of c.args.at.now in
    let sc = scope_in c.args.at.now in
    let a = book c.args.run.now in
    let s = c.args.exp.now.span in
    let d = c.args.exp.now.node in
    arm f env sc s (Ok (kinds.Bool c.in-Truth.value)) a a _ d
    (ap shape_of c.in-Truth.is)
    (leaf (kinds.Bool c.in-Truth.value) _ a refl)

pub node-returns-in-Character : goal.node-returns-in-Character
node-returns-in-Character t c =
    let f = parts_of c.args.at.now in
    let env = environment_of c.args.at.now in
    let sc = scope_in c.args.at.now in
    let a = book c.args.run.now in
    let s = c.args.exp.now.span in
    let d = c.args.exp.now.node in
    arm f env sc s (Ok (kinds.Char c.in-Character.value)) a a _ d
    (ap shape_of c.in-Character.is)
    (leaf (kinds.Char c.in-Character.value) _ a refl)

pub node-returns-in-Text : goal.node-returns-in-Text
node-returns-in-Text t c =
    let f = parts_of c.args.at.now in
    let env = environment_of c.args.at.now in
    let sc = scope_in c.args.at.now in
    let a = book c.args.run.now in
    let s = c.args.exp.now.span in
    let d = c.args.exp.now.node in
    arm f env sc s c.text.result a (book c.text.new.self) _ d
    (ap shape_of c.in-Text.is ∙ ap (λ (x : List ℕ). trees.text x) (sym c.as_slice.ensures.value))
    (c.text.ensures)

pub node-returns-in-Call : goal.node-returns-in-Call
node-returns-in-Call t c =
    let f = parts_of c.args.at.now in
    let env = environment_of c.args.at.now in
    let sc = scope_in c.args.at.now in
    let a = book c.args.run.now in
    let s = c.args.exp.now.span in
    let d = c.args.exp.now.node in
    arm f env sc s c.call.result a (book c.call.new.run) _ d
    (ap shape_of c.in-Call.is
    ∙ ap (λ (x : Name). trees.call x (tree_of c.in-Call.argument.value)) (sym c.as_slice-in-Call.ensures.value)
    ∙ ap (λ (x : Exp). trees.call c.as_slice-in-Call.result.now (tree_of x)) (sym c.deref.ensures))
    (c.call.ensures)

pub node-returns-in-Pair : goal.node-returns-in-Pair
node-returns-in-Pair t c =
    let f = parts_of c.args.at.now in
    let env = environment_of c.args.at.now in
    let sc = scope_in c.args.at.now in
    let a = book c.args.run.now in
    let s = c.args.exp.now.span in
    let d = c.args.exp.now.node in
    arm f env sc s c.two.result a (book c.two.new.run) _ d
    (ap shape_of c.in-Pair.is ∙ of_two trees.pair c.deref-in-Pair.result.now c.deref-in-Pair-2.result.now c.in-Pair.left.value c.in-Pair.right.value c.deref-in-Pair.ensures c.deref-in-Pair-2.ensures)
    (c.two.ensures)

pub node-returns-in-Prefix : goal.node-returns-in-Prefix
node-returns-in-Prefix t c =
    let f = parts_of c.args.at.now in
    let env = environment_of c.args.at.now in
    let sc = scope_in c.args.at.now in
    let a = book c.args.run.now in
    let s = c.args.exp.now.span in
    let d = c.args.exp.now.node in
    arm f env sc s c.one.result a (book c.one.new.run) _ d
    (ap shape_of c.in-Prefix.is
    ∙ ap (λ (x : Exp). trees.prefix_of c.in-Prefix.operator (tree_of x)) (sym c.deref-in-Prefix.ensures))
    (let F : Builtin → Type 0 = λ g. Writes (IsOf Global) a c.one.result (book c.one.new.run) (and_then (f sc (tree_of c.deref-in-Prefix.result.now)) (λ x. charged s (apply_builtin s g x))) in subst F c.of_prefix.ensures c.one.ensures)

pub node-returns-in-Infix : goal.node-returns-in-Infix
node-returns-in-Infix t c =
    let f = parts_of c.args.at.now in
    let env = environment_of c.args.at.now in
    let sc = scope_in c.args.at.now in
    let a = book c.args.run.now in
    let s = c.args.exp.now.span in
    let d = c.args.exp.now.node in
    arm f env sc s c.two-in-Infix.result a (book c.two-in-Infix.new.run) _ d
    (ap shape_of c.in-Infix.is ∙ of_two (trees.infix_of c.in-Infix.operator) c.deref-in-Infix.result.now c.deref-in-Infix-2.result.now c.in-Infix.left.value c.in-Infix.right.value c.deref-in-Infix.ensures c.deref-in-Infix-2.ensures)
    (let F : Builtin → Type 0 = λ g. Writes (IsOf Global) a c.two-in-Infix.result (book c.two-in-Infix.new.run) (two_parts f sc (tree_of c.deref-in-Infix.result.now) (tree_of c.deref-in-Infix-2.result.now) (λ x y. charged s (apply_builtin s g (values.pair x y)))) in subst F c.of_infix.ensures c.two-in-Infix.ensures)

pub node-returns-in-Index : goal.node-returns-in-Index
node-returns-in-Index t c =
    let f = parts_of c.args.at.now in
    let env = environment_of c.args.at.now in
    let sc = scope_in c.args.at.now in
    let a = book c.args.run.now in
    let s = c.args.exp.now.span in
    let d = c.args.exp.now.node in
    arm f env sc s c.two-in-Index.result a (book c.two-in-Index.new.run) _ d
    (ap shape_of c.in-Index.is ∙ of_two trees.index c.deref-in-Index.result.now c.deref-in-Index-2.result.now c.in-Index.sequence.value c.in-Index.index.value c.deref-in-Index.ensures c.deref-in-Index-2.ensures)
    (c.two-in-Index.ensures)

pub node-returns-in-Choice : goal.node-returns-in-Choice
node-returns-in-Choice t c =
    let f = parts_of c.args.at.now in
    let env = environment_of c.args.at.now in
    let sc = scope_in c.args.at.now in
    let a = book c.args.run.now in
    let s = c.args.exp.now.span in
    let d = c.args.exp.now.node in
    arm f env sc s c.choice.result a (book c.choice.new.run) _ d
    (ap shape_of c.in-Choice.is ∙ of_three trees.choice c.deref-in-Choice.result.now c.deref-in-Choice-2.result.now c.deref-in-Choice-3.result.now c.in-Choice.test.value c.in-Choice.yes.value c.in-Choice.no.value c.deref-in-Choice.ensures c.deref-in-Choice-2.ensures c.deref-in-Choice-3.ensures)
    (c.choice.ensures)

pub node-returns-in-Sequence : goal.node-returns-in-Sequence
node-returns-in-Sequence t c =
    let f = parts_of c.args.at.now in
    let env = environment_of c.args.at.now in
    let sc = scope_in c.args.at.now in
    let a = book c.args.run.now in
    let s = c.args.exp.now.span in
    let d = c.args.exp.now.node in
    arm f env sc s c.sequence.result a (book c.sequence.new.run) _ d
    (ap shape_of c.in-Sequence.is ∙ sequence_shape c.in-Sequence.items
    ∙ ap (λ (es : List Exp). trees.sequence (trees_in es)) (sym c.as_slice-in-Sequence.ensures.value))
    (c.sequence.ensures)

pub node-returns-in-Range : goal.node-returns-in-Range
node-returns-in-Range t c =
    let f = parts_of c.args.at.now in
    let env = environment_of c.args.at.now in
    let sc = scope_in c.args.at.now in
    let a = book c.args.run.now in
    let s = c.args.exp.now.span in
    let d = c.args.exp.now.node in
    arm f env sc s c.two-in-Range.result a (book c.two-in-Range.new.run) _ d
    (ap shape_of c.in-Range.is ∙ of_two trees.range c.deref-in-Range.result.now c.deref-in-Range-2.result.now c.in-Range.from.value c.in-Range.to.value c.deref-in-Range.ensures c.deref-in-Range-2.ensures)
    (c.two-in-Range.ensures)

pub node-returns-in-StridedRange : goal.node-returns-in-StridedRange
node-returns-in-StridedRange t c =
    let f = parts_of c.args.at.now in
    let env = environment_of c.args.at.now in
    let sc = scope_in c.args.at.now in
    let a = book c.args.run.now in
    let s = c.args.exp.now.span in
    let d = c.args.exp.now.node in
    arm f env sc s c.three.result a (book c.three.new.run) _ d
    (ap shape_of c.in-StridedRange.is ∙ of_three trees.strided_range c.deref-in-StridedRange.result.now c.deref-in-StridedRange-2.result.now c.deref-in-StridedRange-3.result.now c.in-StridedRange.from.value c.in-StridedRange.to.value c.in-StridedRange.stride.value c.deref-in-StridedRange.ensures c.deref-in-StridedRange-2.ensures c.deref-in-StridedRange-3.ensures)
    (c.three.ensures)

pub node-returns-in-Let : goal.node-returns-in-Let
node-returns-in-Let t c =
    let f = parts_of c.args.at.now in
    let env = environment_of c.args.at.now in
    let sc = scope_in c.args.at.now in
    let a = book c.args.run.now in
    let s = c.args.exp.now.span in
    let d = c.args.exp.now.node in
    arm f env sc s c.let_in.result a (book c.let_in.new.run) _ d
    (ap shape_of c.in-Let.is ∙ let_shape c.in-Let.bindings c.in-Let.body
    ∙ of_list trees.let_in c.as_slice-in-Let.result.now c.in-Let.bindings.items c.deref-in-Let.result.now c.in-Let.body.value c.as_slice-in-Let.ensures.value c.deref-in-Let.ensures)
    (c.let_in.ensures)

pub node-returns-in-Each : goal.node-returns-in-Each
node-returns-in-Each t c =
    let f = parts_of c.args.at.now in
    let env = environment_of c.args.at.now in
    let sc = scope_in c.args.at.now in
    let a = book c.args.run.now in
    let s = c.args.exp.now.span in
    let d = c.args.exp.now.node in
    arm f env sc s c.each.result a (book c.each.new.run) _ d
    (ap shape_of c.in-Each.is ∙ each_shape c.in-Each.body c.in-Each.bindings
    ∙ of_list (λ bs e. trees.each e bs) c.as_slice-in-Each.result.now c.in-Each.bindings.items c.deref-in-Each.result.now c.in-Each.body.value c.as_slice-in-Each.ensures.value c.deref-in-Each.ensures)
    (c.each.ensures)

pub node-returns-in-FilteredEach : goal.node-returns-in-FilteredEach
node-returns-in-FilteredEach t c =
    let f = parts_of c.args.at.now in
    let env = environment_of c.args.at.now in
    let sc = scope_in c.args.at.now in
    let a = book c.args.run.now in
    let s = c.args.exp.now.span in
    let d = c.args.exp.now.node in
    arm f env sc s c.filtered.result a (book c.filtered.new.run) _ d
    (ap shape_of c.in-FilteredEach.is ∙ filtered_shape c.in-FilteredEach.body c.in-FilteredEach.bindings c.in-FilteredEach.filter
    ∙ of_list (λ bs e. trees.filtered_each e bs (tree_of c.in-FilteredEach.filter.value)) c.as_slice-in-FilteredEach.result.now c.in-FilteredEach.bindings.items c.deref-in-FilteredEach.result.now c.in-FilteredEach.body.value c.as_slice-in-FilteredEach.ensures.value c.deref-in-FilteredEach.ensures
    ∙ ap (λ (g : Exp). trees.filtered_each (tree_of c.deref-in-FilteredEach.result.now) (binders_in c.as_slice-in-FilteredEach.result.now) (tree_of g)) (sym c.deref-in-FilteredEach-2.ensures))
    (c.filtered.ensures)

pub node-returns-in-Element : goal.node-returns-in-Element
node-returns-in-Element t c =
    let f = parts_of c.args.at.now in
    let env = environment_of c.args.at.now in
    let sc = scope_in c.args.at.now in
    let a = book c.args.run.now in
    let s = c.args.exp.now.span in
    let d = c.args.exp.now.node in
    arm f env sc s c.element.result a a _ d
    (ap shape_of c.in-Element.is)
    (c.element.ensures a)

pub one-returns-in_err-value : goal.one-returns-in_err-value
one-returns-in_err-value t c =
    let f = parts_of c.args.at.now in
    let env = environment_of c.args.at.now in
    let sc = scope_in c.args.at.now in
    let a = book c.args.run.now in
    let e = err_from_is_err_and c.from_residual.result c.from_residual.ensures.1 in rw (e.1, e.2) (
    stopped (IsOf Global) (IsOf Global) c.in_err-value.field-0.0 a (book c.eval.new.run) (f sc (tree_of c.args.operand.now)) _ c.in_err-value.ensures)

pub one-returns : goal.one-returns
one-returns t c =
    let f = parts_of c.args.at.now in
    let env = environment_of c.args.at.now in
    let sc = scope_in c.args.at.now in
    let a = book c.args.run.now in
    chained_value (IsOf Global) c.in_ok-value.value c.apply.result a (book c.eval.new.run) (book c.apply.new.self) (f sc (tree_of c.args.operand.now)) _ c.in_ok-value.ensures c.apply.ensures

pub two-returns-in_err-first : goal.two-returns-in_err-first
two-returns-in_err-first t c =
    let f = parts_of c.args.at.now in
    let env = environment_of c.args.at.now in
    let sc = scope_in c.args.at.now in
    let a = book c.args.run.now in
    let e = err_from_is_err_and c.from_residual.result c.from_residual.ensures.1 in rw (e.1, e.2) (
    stopped (IsOf Global) (IsOf Global) c.in_err-first.field-0.0 a (book c.eval.new.run) (f sc (tree_of c.args.left.now)) _ c.in_err-first.ensures)

pub two-returns-in_err-second : goal.two-returns-in_err-second
two-returns-in_err-second t c =
    let f = parts_of c.args.at.now in
    let env = environment_of c.args.at.now in
    let sc = scope_in c.args.at.now in
    let a = book c.args.run.now in
    let e = err_from_is_err_and c.from_residual-in_err-second.result c.from_residual-in_err-second.ensures.1 in rw (e.1, e.2) (
    chained_value (IsOf Global) c.in_ok-first.first (Err c.in_err-second.field-0.0) a (book c.eval.new.run) (book c.eval-2.new.run) (f sc (tree_of c.args.left.now)) _ c.in_ok-first.ensures
    (stopped (IsOf Global) (IsOf Global) c.in_err-second.field-0.0 (book c.eval.new.run) (book c.eval-2.new.run) (f sc (tree_of c.args.right.now)) _ c.in_err-second.ensures))

pub two-returns : goal.two-returns
two-returns t c =
    let f = parts_of c.args.at.now in
    let env = environment_of c.args.at.now in
    let sc = scope_in c.args.at.now in
    let a = book c.args.run.now in
    chained_value (IsOf Global) c.in_ok-first.first c.join.result a (book c.eval.new.run) (book c.join.new.self) (f sc (tree_of c.args.left.now)) _ c.in_ok-first.ensures
    (chained_value (IsOf Global) c.in_ok-second.second c.join.result (book c.eval.new.run) (book c.eval-2.new.run) (book c.join.new.self) (f sc (tree_of c.args.right.now)) _ c.in_ok-second.ensures c.join.ensures)

pub three-returns-in_err-first : goal.three-returns-in_err-first
three-returns-in_err-first t c =
    let f = parts_of c.args.at.now in
    let env = environment_of c.args.at.now in
    let sc = scope_in c.args.at.now in
    let a = book c.args.run.now in
    let e = err_from_is_err_and c.from_residual.result c.from_residual.ensures.1 in rw (e.1, e.2) (
    stopped (IsOf Global) (IsOf Global) c.in_err-first.field-0.0 a (book c.eval.new.run) (f sc (tree_of c.args.from.now)) _ c.in_err-first.ensures)

pub three-returns-in_err-second : goal.three-returns-in_err-second
three-returns-in_err-second t c =
    let f = parts_of c.args.at.now in
    let env = environment_of c.args.at.now in
    let sc = scope_in c.args.at.now in
    let a = book c.args.run.now in
    let e = err_from_is_err_and c.from_residual-in_err-second.result c.from_residual-in_err-second.ensures.1 in rw (e.1, e.2) (
    chained_value (IsOf Global) c.in_ok-first.first (Err c.in_err-second.field-0.0) a (book c.eval.new.run) (book c.eval-2.new.run) (f sc (tree_of c.args.from.now)) _ c.in_ok-first.ensures
    (stopped (IsOf Global) (IsOf Global) c.in_err-second.field-0.0 (book c.eval.new.run) (book c.eval-2.new.run) (f sc (tree_of c.args.to.now)) _ c.in_err-second.ensures))

pub three-returns-in_err-third : goal.three-returns-in_err-third
three-returns-in_err-third t c =
    let f = parts_of c.args.at.now in
    let env = environment_of c.args.at.now in
    let sc = scope_in c.args.at.now in
    let a = book c.args.run.now in
    let e = err_from_is_err_and c.from_residual-in_err-third.result c.from_residual-in_err-third.ensures.1 in rw (e.1, e.2) (
    chained_value (IsOf Global) c.in_ok-first.first (Err c.in_err-third.field-0.0) a (book c.eval.new.run) (book c.eval-3.new.run) (f sc (tree_of c.args.from.now)) _ c.in_ok-first.ensures
    (chained_value (IsOf Global) c.in_ok-second.second (Err c.in_err-third.field-0.0) (book c.eval.new.run) (book c.eval-2.new.run) (book c.eval-3.new.run) (f sc (tree_of c.args.to.now)) _ c.in_ok-second.ensures
    (stopped (IsOf Global) (IsOf Global) c.in_err-third.field-0.0 (book c.eval-2.new.run) (book c.eval-3.new.run) (f sc (tree_of c.args.stride.now)) _ c.in_err-third.ensures)))

pub three-returns : goal.three-returns
three-returns t c =
    let f = parts_of c.args.at.now in
    let env = environment_of c.args.at.now in
    let sc = scope_in c.args.at.now in
    let a = book c.args.run.now in
    chained_value (IsOf Global) c.in_ok-first.first c.apply.result a (book c.eval.new.run) (book c.apply.new.self) (f sc (tree_of c.args.from.now)) _ c.in_ok-first.ensures
    (chained_value (IsOf Global) c.in_ok-second.second c.apply.result (book c.eval.new.run) (book c.eval-2.new.run) (book c.apply.new.self) (f sc (tree_of c.args.to.now)) _ c.in_ok-second.ensures
    (chained_value (IsOf Global) c.in_ok-third.third c.apply.result (book c.eval-2.new.run) (book c.eval-3.new.run) (book c.apply.new.self) (f sc (tree_of c.args.stride.now)) _ c.in_ok-third.ensures c.apply.ensures))

pub choice-returns-in_err-truth : goal.choice-returns-in_err-truth
choice-returns-in_err-truth t c =
    let f = parts_of c.args.at.now in
    let env = environment_of c.args.at.now in
    let sc = scope_in c.args.at.now in
    let a = book c.args.run.now in
    let e = err_from_is_err_and c.from_residual.result c.from_residual.ensures.1 in rw (e.1, e.2) (
    stopped (IsOf Global) (IsOf Global) c.in_err-truth.field-0.0 a (book c.eval.new.run) (f sc (tree_of c.args.test.now)) _ c.in_err-truth.ensures)

pub choice-returns-in_err-holds : goal.choice-returns-in_err-holds
choice-returns-in_err-holds t c =
    let f = parts_of c.args.at.now in
    let env = environment_of c.args.at.now in
    let sc = scope_in c.args.at.now in
    let a = book c.args.run.now in
    let e = err_from_is_err_and c.from_residual-in_err-holds.result c.from_residual-in_err-holds.ensures.1 in rw (e.1, e.2) (
    rw c.in_err-holds.ensures.0 (chained_value (IsOf Global) c.in_ok-truth.truth (Err Stuck) a (book c.eval.new.run) (book c.eval.new.run) (f sc (tree_of c.args.test.now)) _ c.in_ok-truth.ensures
    (subst (λ (y : Option Bool). Writes (IsOf Global) (book c.eval.new.run) (Err Stuck) (book c.eval.new.run) (branch y (f sc (tree_of c.args.yes.now)) (f sc (tree_of c.args.no.now)))) (sym c.in_err-holds.ensures.1) tt)))

pub choice-returns-then-holds : goal.choice-returns-then-holds
choice-returns-then-holds t c =
    let f = parts_of c.args.at.now in
    let env = environment_of c.args.at.now in
    let sc = scope_in c.args.at.now in
    let a = book c.args.run.now in
    chained_value (IsOf Global) c.in_ok-truth.truth c.eval-then-holds.result a (book c.eval.new.run) (book c.eval-then-holds.new.run) (f sc (tree_of c.args.test.now)) _ c.in_ok-truth.ensures
    (chosen c.eval-then-holds.result (book c.eval.new.run) (book c.eval-then-holds.new.run) (value_tree c.in_ok-truth.truth) true (f sc (tree_of c.args.yes.now)) (f sc (tree_of c.args.no.now)) (c.in_ok-holds.ensures ∙ ap Some c.if-holds.true) c.eval-then-holds.ensures)

pub choice-returns-else-holds : goal.choice-returns-else-holds
choice-returns-else-holds t c =
    let f = parts_of c.args.at.now in
    let env = environment_of c.args.at.now in
    let sc = scope_in c.args.at.now in
    let a = book c.args.run.now in
    chained_value (IsOf Global) c.in_ok-truth.truth c.eval-else-holds.result a (book c.eval.new.run) (book c.eval-else-holds.new.run) (f sc (tree_of c.args.test.now)) _ c.in_ok-truth.ensures
    (chosen c.eval-else-holds.result (book c.eval.new.run) (book c.eval-else-holds.new.run) (value_tree c.in_ok-truth.truth) false (f sc (tree_of c.args.yes.now)) (f sc (tree_of c.args.no.now)) (c.in_ok-holds.ensures ∙ ap Some c.if-holds.false) c.eval-else-holds.ensures)

pub sequence-returns-in_err-values : goal.sequence-returns-in_err-values
sequence-returns-in_err-values t c =
    let f = parts_of c.args.at.now in
    let env = environment_of c.args.at.now in
    let sc = scope_in c.args.at.now in
    let a = book c.args.run.now in
    let e = err_from_is_err_and c.from_residual.result c.from_residual.ensures.1 in rw (e.1, e.2) (
    stopped AreValues (IsOf Global) c.in_err-values.field-0.0 a (book c.part_values.new.run) (all_parts f sc (trees_in c.args.items.now)) _ c.in_err-values.ensures)

pub sequence-returns : goal.sequence-returns
sequence-returns t c =
    let f = parts_of c.args.at.now in
    let env = environment_of c.args.at.now in
    let sc = scope_in c.args.at.now in
    let a = book c.args.run.now in
    let b = book c.part_values.new.run in
    let s = c.args.span in
    chained AreValues (IsOf Global) c.in_ok-values.values c.halted.result a b b (all_parts f sc (trees_in c.args.items.now)) _ c.in_ok-values.ensures
    (λ vs e. subst (λ (y : List Value). Writes (IsOf Global) b c.halted.result b (charged s (small_enough s (values.sequence y)))) e
    (subst (λ (r : Result (code.Value Global) Unfinished). Writes (IsOf Global) b r b (charged s (small_enough s (values.sequence (map value_tree c.in_ok-values.values.items))))) (sym c.halted.ensures)
    (at_once (IsOf Global) s b c.sequence_of.result _ c.sequence_of.ensures)))

pub part_values-loop-item-init : goal.part_values-loop-item-init
part_values-loop-item-init t c =
    let f = parts_of c.args.at.now in
    let env = environment_of c.args.at.now in
    let sc = scope_in c.args.at.now in
    let a = book c.args.run.now in
    subst (λ (y : List (code.Value Global)). LeadsAll a (map value_tree y) (all_parts f sc (trees_in c.args.items.now)) a (all_parts f sc (trees_in c.args.items.now))) (sym c.new-found.ensures.items) (all_start a (all_parts f sc (trees_in c.args.items.now)))

pub part_values-returns-in_err-value : goal.part_values-returns-in_err-value
part_values-returns-in_err-value t c =
    let f = parts_of c.args.at.now in
    let env = environment_of c.args.at.now in
    let sc = scope_in c.args.at.now in
    let a = book c.args.run.now in
    let e = err_from_is_err_and c.from_residual.result c.from_residual.ensures.1 in rw (e.1, e.2) (
    all_stop c.in_err-value.field-0.0 a (book c.loop-item.run) (book c.eval.new.run) (map value_tree c.loop-item.found.items) (f sc (tree_of c.item-item.result)) (all_parts f sc (trees_in (drop (c.loop-item.item-index + 1) c.args.items.now))) (all_parts f sc (trees_in c.args.items.now)) (subst (λ (y : List Exp). LeadsAll (book c.loop-item.run) (map value_tree c.loop-item.found.items) (all_parts f sc (trees_in y)) a (all_parts f sc (trees_in c.args.items.now))) (dropped c.args.items.now c.loop-item.item-index c.item-item.result c.loop-item-test.true c.item-item.is) c.loop-item.invariant) c.in_err-value.ensures)

pub part_values-returns-in_err-hold : goal.part_values-returns-in_err-hold
part_values-returns-in_err-hold t c =
    let f = parts_of c.args.at.now in
    let env = environment_of c.args.at.now in
    let sc = scope_in c.args.at.now in
    let a = book c.args.run.now in
    let e = err_from_is_err_and c.from_residual-in_err-hold.result c.from_residual-in_err-hold.ensures.1 in rw (e.1, e.2) (
    rw c.in_err-hold.ensures (memory_any AreValues a (book c.eval.new.run) (all_parts f sc (trees_in c.args.items.now))))

pub part_values-loop-item-preserved : goal.part_values-loop-item-preserved
part_values-loop-item-preserved t c =
    let f = parts_of c.args.at.now in
    let env = environment_of c.args.at.now in
    let sc = scope_in c.args.at.now in
    let a = book c.args.run.now in
    subst (λ (y : List Value). LeadsAll (book c.eval.new.run) y (all_parts f sc (trees_in (drop (c.loop-item.item-index + 1) c.args.items.now))) a (all_parts f sc (trees_in c.args.items.now)))
    (sym (mapped_more c.loop-item.found.items c.hold.new.values.items c.in_ok-value.value (map value_tree c.loop-item.found.items) refl c.in_ok-hold.ensures))
    (all_step c.in_ok-value.value a (book c.loop-item.run) (book c.eval.new.run) (map value_tree c.loop-item.found.items) (f sc (tree_of c.item-item.result)) (all_parts f sc (trees_in (drop (c.loop-item.item-index + 1) c.args.items.now))) (all_parts f sc (trees_in c.args.items.now)) (subst (λ (y : List Exp). LeadsAll (book c.loop-item.run) (map value_tree c.loop-item.found.items) (all_parts f sc (trees_in y)) a (all_parts f sc (trees_in c.args.items.now))) (dropped c.args.items.now c.loop-item.item-index c.item-item.result c.loop-item-test.true c.item-item.is) c.loop-item.invariant) c.in_ok-value.ensures)

pub part_values-returns : goal.part_values-returns
part_values-returns t c =
    let f = parts_of c.args.at.now in
    let env = environment_of c.args.at.now in
    let sc = scope_in c.args.at.now in
    let a = book c.args.run.now in
    all_end c.loop-item.found a (book c.loop-item.run) (map value_tree c.loop-item.found.items) (all_parts f sc (trees_in (drop c.loop-item.item-index c.args.items.now))) (all_parts f sc (trees_in c.args.items.now)) refl (ap (λ (y : List Exp). all_parts f sc (trees_in y)) (none_left c.args.items.now c.loop-item.item-index c.loop-item-test.false)) c.loop-item.invariant

pub values_drawn-loop-binding-init : goal.values_drawn-loop-binding-init
values_drawn-loop-binding-init t c =
    let f = parts_of c.args.at.now in
    let env = environment_of c.args.at.now in
    let sc = scope_in c.args.at.now in
    let a = book c.args.run.now in
    subst (λ (y : List (code.Value Global)). LeadsAll a (map value_tree y) (all_parts f sc (sources (binders_in c.args.bindings.now))) a (all_parts f sc (sources (binders_in c.args.bindings.now)))) (sym c.new-found.ensures.items) (all_start a (all_parts f sc (sources (binders_in c.args.bindings.now))))

pub values_drawn-returns-in_err-value : goal.values_drawn-returns-in_err-value
values_drawn-returns-in_err-value t c =
    let f = parts_of c.args.at.now in
    let env = environment_of c.args.at.now in
    let sc = scope_in c.args.at.now in
    let a = book c.args.run.now in
    let e = err_from_is_err_and c.from_residual.result c.from_residual.ensures.1 in rw (e.1, e.2) (
    all_stop c.in_err-value.field-0.0 a (book c.loop-binding.run) (book c.eval.new.run) (map value_tree c.loop-binding.found.items) (f sc (tree_of c.binding-item.result.value)) (all_parts f sc (sources (binders_in (drop (c.loop-binding.binding-index + 1) c.args.bindings.now)))) (all_parts f sc (sources (binders_in c.args.bindings.now))) (subst (λ (y : List Binding). LeadsAll (book c.loop-binding.run) (map value_tree c.loop-binding.found.items) (all_parts f sc (sources (binders_in y))) a (all_parts f sc (sources (binders_in c.args.bindings.now)))) (dropped c.args.bindings.now c.loop-binding.binding-index c.binding-item.result c.loop-binding-test.true c.binding-item.is) c.loop-binding.invariant) c.in_err-value.ensures)

pub values_drawn-returns-in_err-hold : goal.values_drawn-returns-in_err-hold
values_drawn-returns-in_err-hold t c =
    let f = parts_of c.args.at.now in
    let env = environment_of c.args.at.now in
    let sc = scope_in c.args.at.now in
    let a = book c.args.run.now in
    let e = err_from_is_err_and c.from_residual-in_err-hold.result c.from_residual-in_err-hold.ensures.1 in rw (e.1, e.2) (
    rw c.in_err-hold.ensures (memory_any AreValues a (book c.eval.new.run) (all_parts f sc (sources (binders_in c.args.bindings.now)))))

pub values_drawn-loop-binding-preserved : goal.values_drawn-loop-binding-preserved
values_drawn-loop-binding-preserved t c =
    let f = parts_of c.args.at.now in
    let env = environment_of c.args.at.now in
    let sc = scope_in c.args.at.now in
    let a = book c.args.run.now in
    subst (λ (y : List Value). LeadsAll (book c.eval.new.run) y (all_parts f sc (sources (binders_in (drop (c.loop-binding.binding-index + 1) c.args.bindings.now)))) a (all_parts f sc (sources (binders_in c.args.bindings.now))))
    (sym (mapped_more c.loop-binding.found.items c.hold.new.values.items c.in_ok-value.value (map value_tree c.loop-binding.found.items) refl c.in_ok-hold.ensures))
    (all_step c.in_ok-value.value a (book c.loop-binding.run) (book c.eval.new.run) (map value_tree c.loop-binding.found.items) (f sc (tree_of c.binding-item.result.value)) (all_parts f sc (sources (binders_in (drop (c.loop-binding.binding-index + 1) c.args.bindings.now)))) (all_parts f sc (sources (binders_in c.args.bindings.now))) (subst (λ (y : List Binding). LeadsAll (book c.loop-binding.run) (map value_tree c.loop-binding.found.items) (all_parts f sc (sources (binders_in y))) a (all_parts f sc (sources (binders_in c.args.bindings.now)))) (dropped c.args.bindings.now c.loop-binding.binding-index c.binding-item.result c.loop-binding-test.true c.binding-item.is) c.loop-binding.invariant) c.in_ok-value.ensures)

pub values_drawn-returns : goal.values_drawn-returns
values_drawn-returns t c =
    let f = parts_of c.args.at.now in
    let env = environment_of c.args.at.now in
    let sc = scope_in c.args.at.now in
    let a = book c.args.run.now in
    all_end c.loop-binding.found a (book c.loop-binding.run) (map value_tree c.loop-binding.found.items) (all_parts f sc (sources (binders_in (drop c.loop-binding.binding-index c.args.bindings.now)))) (all_parts f sc (sources (binders_in c.args.bindings.now))) refl (ap (λ (y : List Binding). all_parts f sc (sources (binders_in y))) (none_left c.args.bindings.now c.loop-binding.binding-index c.loop-binding-test.false)) c.loop-binding.invariant

pub let_in-returns-in_err-scope : goal.let_in-returns-in_err-scope
let_in-returns-in_err-scope t c =
    let f = parts_of c.args.at.now in
    let env = environment_of c.args.at.now in
    let sc = scope_in c.args.at.now in
    let a = book c.args.run.now in
    let e = err_from_is_err_and c.from_residual.result c.from_residual.ensures.1 in rw (e.1, e.2) (
    rw c.in_err-scope.ensures (memory_any (IsOf Global) a a (let_of f (binders_in c.args.bindings.now) (tree_of c.args.body.now) sc)))

pub let_in-loop-binding-init : goal.let_in-loop-binding-init
let_in-loop-binding-init t c =
    let f = parts_of c.args.at.now in
    let env = environment_of c.args.at.now in
    let sc = scope_in c.args.at.now in
    let a = book c.args.run.now in
    λ r d h. subst (λ (x : Scope). Writes (IsOf Global) a r d (let_of f (binders_in c.args.bindings.now) (tree_of c.args.body.now) x)) c.in_ok-scope.ensures h

pub let_in-returns-in_err-value : goal.let_in-returns-in_err-value
let_in-returns-in_err-value t c =
    let f = parts_of c.args.at.now in
    let env = environment_of c.args.at.now in
    let sc = scope_in c.args.at.now in
    let a = book c.args.run.now in
    let e = err_from_is_err_and c.from_residual-in_err-value.result c.from_residual-in_err-value.ensures.1 in rw (e.1, e.2) (
    (subst (λ (y : List Binding). LeadsTo (book c.loop-binding.run) (let_of f (binders_in y) (tree_of c.args.body.now) (scope_of c.loop-binding.scope)) a (let_of f (binders_in c.args.bindings.now) (tree_of c.args.body.now) sc)) (dropped c.args.bindings.now c.loop-binding.binding-index c.binding-item.result c.loop-binding-test.true c.binding-item.is) c.loop-binding.invariant) (Err c.in_err-value.field-0.0) (book c.eval_in.new.run) (stopped (IsOf Global) (IsOf Global) c.in_err-value.field-0.0 (book c.loop-binding.run) (book c.eval_in.new.run) (f (scope_of c.loop-binding.scope) (tree_of c.binding-item.result.value)) (λ v. given (bound (pattern_tree c.binding-item.result.pattern) v (scope_of c.loop-binding.scope).names) (λ names. let_of f (binders_in (drop (c.loop-binding.binding-index + 1) c.args.bindings.now)) (tree_of c.args.body.now) (with_names (scope_of c.loop-binding.scope) names))) c.in_err-value.ensures))

pub let_in-returns-in_err-bind : goal.let_in-returns-in_err-bind
let_in-returns-in_err-bind t c =
    let f = parts_of c.args.at.now in
    let env = environment_of c.args.at.now in
    let sc = scope_in c.args.at.now in
    let a = book c.args.run.now in
    let e = err_from_is_err_and c.from_residual-in_err-bind.result c.from_residual-in_err-bind.ensures.1 in rw (e.1, e.2) (
    elim c.in_err-bind.ensures [
      | inl m ↦ rw m (memory_any (IsOf Global) a (book c.eval_in.new.run) (let_of f (binders_in c.args.bindings.now) (tree_of c.args.body.now) sc))
      | inr n ↦ rw n.0 ((subst (λ (y : List Binding). LeadsTo (book c.loop-binding.run) (let_of f (binders_in y) (tree_of c.args.body.now) (scope_of c.loop-binding.scope)) a (let_of f (binders_in c.args.bindings.now) (tree_of c.args.body.now) sc)) (dropped c.args.bindings.now c.loop-binding.binding-index c.binding-item.result c.loop-binding-test.true c.binding-item.is) c.loop-binding.invariant) (Err Stuck) (book c.eval_in.new.run) (chained_value (IsOf Global) c.in_ok-value.value (Err Stuck) (book c.loop-binding.run) (book c.eval_in.new.run) (book c.eval_in.new.run) (f (scope_of c.loop-binding.scope) (tree_of c.binding-item.result.value)) (λ v. given (bound (pattern_tree c.binding-item.result.pattern) v (scope_of c.loop-binding.scope).names) (λ names. let_of f (binders_in (drop (c.loop-binding.binding-index + 1) c.args.bindings.now)) (tree_of c.args.body.now) (with_names (scope_of c.loop-binding.scope) names))) c.in_ok-value.ensures
          (given_none (Err Stuck) (book c.eval_in.new.run) (book c.eval_in.new.run) (bound (pattern_tree c.binding-item.result.pattern) (value_tree c.in_ok-value.value) (scope_of c.loop-binding.scope).names) _ n.1)))
    ])

pub let_in-loop-binding-preserved : goal.let_in-loop-binding-preserved
let_in-loop-binding-preserved t c =
    let f = parts_of c.args.at.now in
    let env = environment_of c.args.at.now in
    let sc = scope_in c.args.at.now in
    let a = book c.args.run.now in
    λ r d h. (subst (λ (y : List Binding). LeadsTo (book c.loop-binding.run) (let_of f (binders_in y) (tree_of c.args.body.now) (scope_of c.loop-binding.scope)) a (let_of f (binders_in c.args.bindings.now) (tree_of c.args.body.now) sc)) (dropped c.args.bindings.now c.loop-binding.binding-index c.binding-item.result c.loop-binding-test.true c.binding-item.is) c.loop-binding.invariant) r d (chained_value (IsOf Global) c.in_ok-value.value r (book c.loop-binding.run) (book c.eval_in.new.run) d (f (scope_of c.loop-binding.scope) (tree_of c.binding-item.result.value)) (λ v. given (bound (pattern_tree c.binding-item.result.pattern) v (scope_of c.loop-binding.scope).names) (λ names. let_of f (binders_in (drop (c.loop-binding.binding-index + 1) c.args.bindings.now)) (tree_of c.args.body.now) (with_names (scope_of c.loop-binding.scope) names))) c.in_ok-value.ensures
    (given_some r (book c.eval_in.new.run) d (bound (pattern_tree c.binding-item.result.pattern) (value_tree c.in_ok-value.value) (scope_of c.loop-binding.scope).names) (locals c.bind.new.names.items) _ c.in_ok-bind.ensures h))

pub let_in-returns : goal.let_in-returns
let_in-returns t c =
    let f = parts_of c.args.at.now in
    let env = environment_of c.args.at.now in
    let sc = scope_in c.args.at.now in
    let a = book c.args.run.now in
    c.loop-binding.invariant c.eval_in-2.result (book c.eval_in-2.new.run) (subst (λ (y : List Binding). Writes (IsOf Global) (book c.loop-binding.run) c.eval_in-2.result (book c.eval_in-2.new.run) (let_of f (binders_in y) (tree_of c.args.body.now) (scope_of c.loop-binding.scope))) (sym (none_left c.args.bindings.now c.loop-binding.binding-index c.loop-binding-test.false)) c.eval_in-2.ensures)

pub eval_in-returns : goal.eval_in-returns
eval_in-returns t c =
    let f = parts_of c.args.at.now in
    let env = environment_of c.args.at.now in
    let sc = scope_in c.args.at.now in
    let a = book c.args.run.now in
    c.eval.ensures

pub call-returns-in_err-value : goal.call-returns-in_err-value
call-returns-in_err-value t c =
    let f = parts_of c.args.at.now in
    let env = environment_of c.args.at.now in
    let sc = scope_in c.args.at.now in
    let a = book c.args.run.now in
    let e = err_from_is_err_and c.from_residual.result c.from_residual.ensures.1 in rw (e.1, e.2) (
    stopped (IsOf Global) (IsOf Global) c.in_err-value.field-0.0 a (book c.eval.new.run) (f sc (tree_of c.args.argument.now)) _ c.in_err-value.ensures)

pub call-returns-in-Some : goal.call-returns-in-Some
call-returns-in-Some t c =
    let f = parts_of c.args.at.now in
    let env = environment_of c.args.at.now in
    let sc = scope_in c.args.at.now in
    let a = book c.args.run.now in
    chained_value (IsOf Global) c.in_ok-value.value c.apply.result a (book c.eval.new.run) (book c.apply.new.self) (f sc (tree_of c.args.argument.now)) _ c.in_ok-value.ensures
    (retold (IsOf Global) c.apply.result (book c.eval.new.run) (book c.apply.new.self) _ _ (call_builtin f c.args.name.now c.args.span c.in-Some.function (builtin_named c.args.name.now) (look_up env c.args.name.now) (value_tree c.in_ok-value.value) c.in-Some.ensures) c.apply.ensures)

pub eval_at-returns : goal.eval_at-returns
eval_at-returns t c =
    let f = parts_of c.args.at.now in
    let env = environment_of c.args.at.now in
    let sc = scope_in c.args.at.now in
    let a = book c.args.run.now in
    given_some c.eval_in.result a (book c.eval_in.new.run) (scope_at (binders_in c.args.drawn.now.bindings.now) (map value_tree c.args.drawn.now.sequences.now) sc c.args.place) (scope_of c.in_ok-scope.scope) (λ inner. f inner (tree_of c.args.exp.now)) c.in_ok-scope.ensures c.eval_in.ensures

pub eval_at-returns-in_err-scope : goal.eval_at-returns-in_err-scope
eval_at-returns-in_err-scope t c =
    let f = parts_of c.args.at.now in
    let env = environment_of c.args.at.now in
    let sc = scope_in c.args.at.now in
    let a = book c.args.run.now in
    let e = err_from_is_err_and c.from_residual.result c.from_residual.ensures.1 in rw (e.1, e.2) (
    elim c.in_err-scope.ensures [
      | inl m ↦ rw m (memory_any (IsOf Global) a a (at_place f (binders_in c.args.drawn.now.bindings.now) (map value_tree c.args.drawn.now.sequences.now) sc (tree_of c.args.exp.now) c.args.place))
      | inr n ↦ rw n.0 (given_none (Err Stuck) a a (scope_at (binders_in c.args.drawn.now.bindings.now) (map value_tree c.args.drawn.now.sequences.now) sc c.args.place) (λ inner. f inner (tree_of c.args.exp.now)) n.1)
    ])

pub body_at-returns-in_err-value : goal.body_at-returns-in_err-value
body_at-returns-in_err-value t c =
    let f = parts_of c.args.at.now in
    let env = environment_of c.args.at.now in
    let sc = scope_in c.args.at.now in
    let a = book c.args.run.now in
    let e = err_from_is_err_and c.from_residual.result c.from_residual.ensures.1 in rw (e.1, e.2) (
    stopped (IsOf Global) (OneOf Global) c.in_err-value.field-0.0 a (book c.eval_at.new.run) (at_place f (binders_in c.args.drawn.now.bindings.now) (map value_tree c.args.drawn.now.sequences.now) sc (tree_of c.args.each.now.body.now) c.args.place) _ c.in_err-value.ensures)

pub body_at-returns-in_err-spend : goal.body_at-returns-in_err-spend
body_at-returns-in_err-spend t c =
    let f = parts_of c.args.at.now in
    let env = environment_of c.args.at.now in
    let sc = scope_in c.args.at.now in
    let a = book c.args.run.now in
    let e = err_from_is_err_and c.from_residual-in_err-spend.result c.from_residual-in_err-spend.ensures.1 in rw (e.1, e.2) (
    chained_value (OneOf Global) c.in_ok-value.value (Err c.in_err-spend.field-0.0) a (book c.eval_at.new.run) (book c.spend.new.self) (at_place f (binders_in c.args.drawn.now.bindings.now) (map value_tree c.args.drawn.now.sequences.now) sc (tree_of c.args.each.now.body.now) c.args.place) _ c.in_ok-value.ensures
    (unpaid c.args.each.now.span (value_tree c.in_ok-value.value) c.in_err-spend.field-0.0 (book c.eval_at.new.run) (book c.spend.new.self) (subst (λ (n : ℕ). Lacks (book c.eval_at.new.run) n c.in_err-spend.field-0.0) c.nodes.ensures c.in_err-spend.ensures)))

pub body_at-returns : goal.body_at-returns
body_at-returns t c =
    let f = parts_of c.args.at.now in
    let env = environment_of c.args.at.now in
    let sc = scope_in c.args.at.now in
    let a = book c.args.run.now in
    chained_value (OneOf Global) c.in_ok-value.value (Ok c.in_ok-value.value) a (book c.eval_at.new.run) (book c.spend.new.self) (at_place f (binders_in c.args.drawn.now.bindings.now) (map value_tree c.args.drawn.now.sequences.now) sc (tree_of c.args.each.now.body.now) c.args.place) _ c.in_ok-value.ensures
    (refl, subst (λ (n : ℕ). Adds (book c.eval_at.new.run) (book c.spend.new.self) (spent c.args.each.now.span n 0)) c.nodes.ensures c.in_ok-spend.ensures)

pub holds_at-returns-in_err-truth : goal.holds_at-returns-in_err-truth
holds_at-returns-in_err-truth t c =
    let f = parts_of c.args.at.now in
    let env = environment_of c.args.at.now in
    let sc = scope_in c.args.at.now in
    let a = book c.args.run.now in
    let e = err_from_is_err_and c.from_residual.result c.from_residual.ensures.1 in rw (e.1, e.2) (
    λ s. stopped (IsOf Global) (IsKeptPlace c.args.place) c.in_err-truth.field-0.0 a (book c.eval_at.new.run) (at_place f (binders_in c.args.drawn.now.bindings.now) (map value_tree c.args.drawn.now.sequences.now) sc (tree_of c.args.filter.now) c.args.place) _ c.in_err-truth.ensures)

pub holds_at-returns : goal.holds_at-returns
holds_at-returns t c =
    let f = parts_of c.args.at.now in
    let env = environment_of c.args.at.now in
    let sc = scope_in c.args.at.now in
    let a = book c.args.run.now in
    λ s. chained_value (IsKeptPlace c.args.place) c.in_ok-truth.truth c.truth_of.result a (book c.eval_at.new.run) (book c.eval_at.new.run) (at_place f (binders_in c.args.drawn.now.bindings.now) (map value_tree c.args.drawn.now.sequences.now) sc (tree_of c.args.filter.now) c.args.place) _ c.in_ok-truth.ensures (kept_at s c.args.place c.truth_of.result (value_tree c.in_ok-truth.truth) (book c.eval_at.new.run) c.truth_of.ensures)

pub body_of-returns : goal.body_of-returns
body_of-returns t c =
    let f = parts_of c.args.at.now in
    let env = environment_of c.args.at.now in
    let sc = scope_in c.args.at.now in
    let a = book c.args.run.now in
    let gives = given_some c.eval_in-found.result (calling c.args.called.now.name.now c.args.called.now.span a) (book c.eval_in-found.new.run) _ (scope_of c.in_ok-scope.scope) (λ y. f y (tree_of c.args.called.now.body.now)) c.in_ok-scope.ensures
    (subst (λ (x : Book). Writes (IsOf Global) x c.eval_in-found.result (book c.eval_in-found.new.run) (f (scope_of c.in_ok-scope.scope) (tree_of c.args.called.now.body.now))) c.in_ok-note.ensures c.eval_in-found.ensures) in
    subst (λ (x : Book). Writes (IsOf Global) a c.called_at.result x (at_call c.args.called.now.name.now c.args.called.now.span (in_bound f (pattern_tree c.args.called.now.pattern.now) (value_tree c.args.called.now.argument.now) (outside []) (tree_of c.args.called.now.body.now)))) (sym c.in_ok-note-2.ensures)
    (c.called_at.ensures a (book c.eval_in-found.new.run) (in_bound f (pattern_tree c.args.called.now.pattern.now) (value_tree c.args.called.now.argument.now) (outside []) (tree_of c.args.called.now.body.now)) (retold (IsOf Global) c.eval_in-found.result (calling c.args.called.now.name.now c.args.called.now.span a) (book c.eval_in-found.new.run) _ _ (in_scope f (pattern_tree c.args.called.now.pattern.now) (value_tree c.args.called.now.argument.now) (tree_of c.args.called.now.body.now)) gives))

pub each-returns-in_err-values : goal.each-returns-in_err-values
each-returns-in_err-values t c =
    let f = parts_of c.args.at.now in
    let env = environment_of c.args.at.now in
    let sc = scope_in c.args.at.now in
    let a = book c.args.run.now in
    let e = err_from_is_err_and c.from_residual.result c.from_residual.ensures.1 in rw (e.1, e.2) (
    stopped AreValues (IsOf Global) c.in_err-values.field-0.0 a (book c.values_drawn.new.run) (all_parts f sc (sources (binders_in c.args.bindings.now))) _ c.in_err-values.ensures)

pub filtered-returns-in_err-values : goal.filtered-returns-in_err-values
filtered-returns-in_err-values t c =
    let f = parts_of c.args.at.now in
    let env = environment_of c.args.at.now in
    let sc = scope_in c.args.at.now in
    let a = book c.args.run.now in
    let e = err_from_is_err_and c.from_residual.result c.from_residual.ensures.1 in rw (e.1, e.2) (
    stopped AreValues (IsOf Global) c.in_err-values.field-0.0 a (book c.values_drawn.new.run) (all_parts f sc (sources (binders_in c.args.bindings.now))) _ c.in_err-values.ensures)

pub each-returns-in_err-len : goal.each-returns-in_err-len
each-returns-in_err-len t c =
    let f = parts_of c.args.at.now in
    let env = environment_of c.args.at.now in
    let sc = scope_in c.args.at.now in
    let a = book c.args.run.now in
    let e = err_from_is_err_and c.from_residual-in_err-len.result c.from_residual-in_err-len.ensures.1 in rw (e.1, e.2) (
    over_stopped c.args.span (λ vs is. body_values f c.args.span (binders_in c.args.bindings.now) vs sc (tree_of c.args.body.now) is) c.in_ok-values.values c.in_err-len.field-0.0 a (book c.values_drawn.new.run) (all_parts f sc (sources (binders_in c.args.bindings.now))) c.in_ok-values.ensures (subst (λ (y : List (code.Value Global)). Writes LenIs (book c.values_drawn.new.run) (Err c.in_err-len.field-0.0) (book c.values_drawn.new.run) (places_at c.args.span (map value_tree y))) c.as_slice-sequences.ensures.value (c.in_err-len.ensures (book c.values_drawn.new.run))))

pub filtered-returns-in_err-len : goal.filtered-returns-in_err-len
filtered-returns-in_err-len t c =
    let f = parts_of c.args.at.now in
    let env = environment_of c.args.at.now in
    let sc = scope_in c.args.at.now in
    let a = book c.args.run.now in
    let e = err_from_is_err_and c.from_residual-in_err-len.result c.from_residual-in_err-len.ensures.1 in rw (e.1, e.2) (
    over_stopped c.args.span (λ vs is. and_then (kept_places f c.args.span (binders_in c.args.bindings.now) vs sc (tree_of c.args.filter.now) is) (body_values f c.args.span (binders_in c.args.bindings.now) vs sc (tree_of c.args.body.now))) c.in_ok-values.values c.in_err-len.field-0.0 a (book c.values_drawn.new.run) (all_parts f sc (sources (binders_in c.args.bindings.now))) c.in_ok-values.ensures (subst (λ (y : List (code.Value Global)). Writes LenIs (book c.values_drawn.new.run) (Err c.in_err-len.field-0.0) (book c.values_drawn.new.run) (places_at c.args.span (map value_tree y))) c.as_slice-sequences.ensures.value (c.in_err-len.ensures (book c.values_drawn.new.run))))

pub each-returns : goal.each-returns
each-returns t c =
    let f = parts_of c.args.at.now in
    let env = environment_of c.args.at.now in
    let sc = scope_in c.args.at.now in
    let a = book c.args.run.now in
    over_done c.args.span (λ vs is. body_values f c.args.span (binders_in c.args.bindings.now) vs sc (tree_of c.args.body.now) is) c.in_ok-values.values c.in_ok-len.len c.bodies.result a (book c.values_drawn.new.run) (book c.bodies.new.run) (all_parts f sc (sources (binders_in c.args.bindings.now))) c.in_ok-values.ensures
    (subst (λ (y : List (code.Value Global)). Writes LenIs (book c.values_drawn.new.run) (Ok c.in_ok-len.len) (book c.values_drawn.new.run) (places_at c.args.span (map value_tree y))) c.as_slice-sequences.ensures.value (c.in_ok-len.ensures (book c.values_drawn.new.run)))
    (subst (λ (y : List (code.Value Global)). Writes (IsOf Global) (book c.values_drawn.new.run) c.bodies.result (book c.bodies.new.run) (body_values f c.args.span (binders_in c.args.bindings.now) (map value_tree y) sc (tree_of c.args.body.now) (range_with_len 0 c.in_ok-len.len))) c.as_slice-sequences.ensures.value c.bodies.ensures)

pub node-returns-in-Number : goal.node-returns-in-Number
node-returns-in-Number t c =
    let f = parts_of c.args.at.now in
    let env = environment_of c.args.at.now in
    let sc = scope_in c.args.at.now in
    let a = book c.args.run.now in
    let s = c.args.exp.now.span in
    let d = c.args.exp.now.node in
    arm f env sc s (Ok (kinds.Int (to_z w64 (of_z w64 c.number.result)))) a a (trees.number c.in-Number.value) d
    (ap shape_of c.in-Number.is)
    (leaf (kinds.Int (to_z w64 (of_z w64 c.number.result))) (values.int (pos (min c.in-Number.value greatest_number))) a (ap values.int (read_number c.number.result c.in-Number.value c.number.type_inv c.number.ensures)))

pub node-returns-in-Variable : goal.node-returns-in-Variable
node-returns-in-Variable t c =
    let f = parts_of c.args.at.now in
    let env = environment_of c.args.at.now in
    let sc = scope_in c.args.at.now in
    let a = book c.args.run.now in
    let s = c.args.exp.now.span in
    let d = c.args.exp.now.node in
    let x = c.as_slice-in-Variable-2.result.now in
    let names = c.as_slice-in-Variable.result.now in
    arm f env sc s c.halted.result a a (trees.variable x) d
    (ap shape_of c.in-Variable.is ∙ ap (λ (y : Name). trees.variable y) (sym c.as_slice-in-Variable-2.ensures.value))
    (subst (λ (ls : List Local). Writes (IsOf Global) a c.halted.result a (charged s (variable_in (look_up (locals ls) x) (look_up env x)))) c.as_slice-in-Variable.ensures.value
    (subst (λ (r : Result (code.Value Global) Unfinished). Writes (IsOf Global) a r a (charged s (variable_in (look_up (locals names) x) (look_up env x)))) (sym c.halted.ensures)
    (at_once (IsOf Global) s a c.variable.result _ c.variable.ensures)))

pub node-returns-in-Empty : goal.node-returns-in-Empty
node-returns-in-Empty t c =
    let f = parts_of c.args.at.now in
    let env = environment_of c.args.at.now in
    let sc = scope_in c.args.at.now in
    let a = book c.args.run.now in
    let s = c.args.exp.now.span in
    let d = c.args.exp.now.node in
    arm f env sc s c.halted-in-Empty.result a a _ d (ap shape_of c.in-Empty.is)
    (subst (λ (r : Result (code.Value Global) Unfinished). Writes (IsOf Global) a r a (value (values.sequence []) free)) (sym c.halted-in-Empty.ensures)
    (at_once (IsOf Global) s a c.make_empty.result (out.value (values.sequence []) 0 0) c.make_empty.ensures))

pub call-returns-in-Some-Function : goal.call-returns-in-Some-Function
call-returns-in-Some-Function t c =
    let f = parts_of c.args.at.now in
    let env = environment_of c.args.at.now in
    let sc = scope_in c.args.at.now in
    let a = book c.args.run.now in
    chained_value (IsOf Global) c.in_ok-value.value c.body_of.result a (book c.eval.new.run) (book c.body_of.new.run) (f sc (tree_of c.args.argument.now)) _ c.in_ok-value.ensures
    (retold (IsOf Global) c.body_of.result (book c.eval.new.run) (book c.body_of.new.run) _ _ (call_function f c.args.name.now c.args.span (builtin_named c.args.name.now) (look_up env c.args.name.now) _ _ (value_tree c.in_ok-value.value) (sym c.in_default.is ∙ c.named.ensures) (subst (λ (k : Callee). Calls (Some k) (look_up env c.args.name.now)) c.in-Some-Function.field-0-is c.in-Some-Function.ensures)) c.body_of.ensures)

-- what an apply-to-each has at each of its places
abbrev body_there : Parts → Span → Binders → List Value → Scope → Tree → ℕ → Traced (List Value)
body_there f s bs vs sc e = λ i. and_then (at_place f bs vs sc e i) (λ v. charged s (body_value v))

abbrev kept_there : Parts → Span → Binders → List Value → Scope → Tree → ℕ → Traced (List ℕ)
kept_there f s bs vs sc e = λ i. and_then (at_place f bs vs sc e i) (λ v. charged s (place_if_true i v))

pub bodies-loop-turn-init : goal.bodies-loop-turn-init
bodies-loop-turn-init t c =
    let bs = binders_in c.args.drawn.now.bindings.now in
    let vs = map value_tree c.args.drawn.now.sequences.now in
    let s = c.args.each.now.span in
    let g = body_there (parts_of c.args.at.now) s bs vs (scope_in c.args.at.now) (tree_of c.args.each.now.body.now) in
    let is = places_of c.args.places in
    let a = book c.args.run.now in
    let w = all_beside s g is in
    subst (λ (y : List Value). LeadsTurns 0 a y w a w) (sym c.with_room-made.ensures) (turns_start a w)

pub bodies-returns-in_err-note : goal.bodies-returns-in_err-note
bodies-returns-in_err-note t c =
    let bs = binders_in c.args.drawn.now.bindings.now in
    let vs = map value_tree c.args.drawn.now.sequences.now in
    let s = c.args.each.now.span in
    let g = body_there (parts_of c.args.at.now) s bs vs (scope_in c.args.at.now) (tree_of c.args.each.now.body.now) in
    let is = places_of c.args.places in
    let a = book c.args.run.now in
    let w = all_beside s g is in
    let e = err_from_is_err_and c.from_residual.result c.from_residual.ensures.1 in rw (e.1, e.2) (
    rw c.in_err-note.ensures (memory_any (IsOf Global) a (book c.note.new.self) (and_then w (λ us. value (values.sequence us) free))))

pub bodies-returns-in_err-note-2 : goal.bodies-returns-in_err-note-2
bodies-returns-in_err-note-2 t c =
    let bs = binders_in c.args.drawn.now.bindings.now in
    let vs = map value_tree c.args.drawn.now.sequences.now in
    let s = c.args.each.now.span in
    let g = body_there (parts_of c.args.at.now) s bs vs (scope_in c.args.at.now) (tree_of c.args.each.now.body.now) in
    let is = places_of c.args.places in
    let a = book c.args.run.now in
    let w = all_beside s g is in
    let e = err_from_is_err_and c.from_residual-in_err-note-2.result c.from_residual-in_err-note-2.ensures.1 in rw (e.1, e.2) (
    rw c.in_err-note-2.ensures (memory_any (IsOf Global) a (book c.note-in-loop-turn.new.self) (and_then w (λ us. value (values.sequence us) free))))

pub bodies-returns-in_err-hold_element-in-Ok : goal.bodies-returns-in_err-hold_element-in-Ok
bodies-returns-in_err-hold_element-in-Ok t c =
    let bs = binders_in c.args.drawn.now.bindings.now in
    let vs = map value_tree c.args.drawn.now.sequences.now in
    let s = c.args.each.now.span in
    let g = body_there (parts_of c.args.at.now) s bs vs (scope_in c.args.at.now) (tree_of c.args.each.now.body.now) in
    let is = places_of c.args.places in
    let a = book c.args.run.now in
    let w = all_beside s g is in
    let e = err_from_is_err_and c.from_residual-in_err-hold_element-in-Ok.result c.from_residual-in_err-hold_element-in-Ok.ensures.1 in rw (e.1, e.2) (
    rw c.in_err-hold_element-in-Ok.ensures (memory_any (IsOf Global) a (book c.note-in-loop-turn.new.self) (and_then w (λ us. value (values.sequence us) free))))

pub bodies-returns-in_err-close-in-Err : goal.bodies-returns-in_err-close-in-Err
bodies-returns-in_err-close-in-Err t c =
    let bs = binders_in c.args.drawn.now.bindings.now in
    let vs = map value_tree c.args.drawn.now.sequences.now in
    let s = c.args.each.now.span in
    let g = body_there (parts_of c.args.at.now) s bs vs (scope_in c.args.at.now) (tree_of c.args.each.now.body.now) in
    let is = places_of c.args.places in
    let a = book c.args.run.now in
    let w = all_beside s g is in
    let e = err_from_is_err_and c.from_residual-in_err-close-in-Err.result c.from_residual-in_err-close-in-Err.ensures.1 in rw (e.1, e.2) (
    rw c.in_err-close-in-Err.ensures (memory_any (IsOf Global) a (book c.close.new.self) (and_then w (λ us. value (values.sequence us) free))))

pub bodies-returns-in_err-close : goal.bodies-returns-in_err-close
bodies-returns-in_err-close t c =
    let bs = binders_in c.args.drawn.now.bindings.now in
    let vs = map value_tree c.args.drawn.now.sequences.now in
    let s = c.args.each.now.span in
    let g = body_there (parts_of c.args.at.now) s bs vs (scope_in c.args.at.now) (tree_of c.args.each.now.body.now) in
    let is = places_of c.args.places in
    let a = book c.args.run.now in
    let w = all_beside s g is in
    let e = err_from_is_err_and c.from_residual-in_err-close.result c.from_residual-in_err-close.ensures.1 in rw (e.1, e.2) (
    rw c.in_err-close.ensures (memory_any (IsOf Global) a (book c.close-2.new.self) (and_then w (λ us. value (values.sequence us) free))))

pub bodies-loop-turn-preserved : goal.bodies-loop-turn-preserved
bodies-loop-turn-preserved t c =
    let bs = binders_in c.args.drawn.now.bindings.now in
    let vs = map value_tree c.args.drawn.now.sequences.now in
    let s = c.args.each.now.span in
    let g = body_there (parts_of c.args.at.now) s bs vs (scope_in c.args.at.now) (tree_of c.args.each.now.body.now) in
    let is = places_of c.args.places in
    let a = book c.args.run.now in
    let w = all_beside s g is in
    let n = c.loop-turn.turn in
    let b = book c.loop-turn.run in
    let d = book c.body_at-found.new.run in
    let r = Result (code.Value Global) Unfinished in
    let met = subst (λ (x : r). Writes (OneOf Global) (book c.note.new.self) x d (g c.at-place.result)) c.in-Ok.is c.body_at-found.ensures in
    let ran = subst (λ (x : Book). Writes (OneOf Global) x (Ok c.in-Ok.value) d (g c.at-place.result)) c.in_ok-note.ensures met in
    let step = turns_step s g is (OneOf Global) n c.at-place.result c.in-Ok.value (elements_of c.loop-turn.made) (value_tree c.in-Ok.value ∷ []) a b d w c.at-place.ensures (λ zs e. e) c.loop-turn.invariant ran in
    subst (λ (x : Book). LeadsTurns (n + 1) x (elements_of c.hold_element.new.made) (all_beside s g (drop (n + 1) is)) a w) (sym c.in_ok-note-2.ensures)
    (subst (λ (y : List Value). LeadsTurns (n + 1) (noted others d) y (all_beside s g (drop (n + 1) is)) a w) (sym c.in_ok-hold_element-in-Ok.ensures) step)

pub bodies-returns-in-Err : goal.bodies-returns-in-Err
bodies-returns-in-Err t c =
    let bs = binders_in c.args.drawn.now.bindings.now in
    let vs = map value_tree c.args.drawn.now.sequences.now in
    let s = c.args.each.now.span in
    let g = body_there (parts_of c.args.at.now) s bs vs (scope_in c.args.at.now) (tree_of c.args.each.now.body.now) in
    let is = places_of c.args.places in
    let a = book c.args.run.now in
    let w = all_beside s g is in
    let n = c.loop-turn.turn in
    let b = book c.loop-turn.run in
    let d = book c.body_at-found.new.run in
    let e = c.in-Err.halt in
    let r = Result (code.Value Global) Unfinished in
    let met = subst (λ (x : r). Writes (OneOf Global) (book c.note.new.self) x d (g c.at-place.result)) c.in-Err.is c.body_at-found.ensures in
    let ran = subst (λ (x : Book). Writes (OneOf Global) x (Err e) d (g c.at-place.result)) c.in_ok-note.ensures met in
    stopped Same (IsOf Global) e a (book c.close.new.self) w (λ us. value (values.sequence us) free)
    (subst (λ (x : Book). Writes Same a (Err e) x w) (sym c.in_ok-close-in-Err.ensures)
    (subst (λ (x : Book). Writes Same a (Err e) (closed (n + 1) x) w) (sym c.in_ok-note-2.ensures)
    (turns_stop s g is (OneOf Global) n c.at-place.result e (elements_of c.loop-turn.made) a b d w c.at-place.ensures c.loop-turn.invariant ran)))

pub bodies-returns : goal.bodies-returns
bodies-returns t c =
    let bs = binders_in c.args.drawn.now.bindings.now in
    let vs = map value_tree c.args.drawn.now.sequences.now in
    let s = c.args.each.now.span in
    let g = body_there (parts_of c.args.at.now) s bs vs (scope_in c.args.at.now) (tree_of c.args.each.now.body.now) in
    let is = places_of c.args.places in
    let a = book c.args.run.now in
    let w = all_beside s g is in
    let n = c.loop-turn.turn in
    let b = book c.loop-turn.run in
    let l = c.len-2.result in
    let here : l ≡ n = omega (arith, c.loop-turn-test.false, c.loop-turn.auto.turn-end, c.len-turn-end.ensures, c.len-2.ensures) in
    let past : length is ≤ n = omega (arith, c.loop-turn-test.false, c.len-turn-end.ensures) in
    let ended = turns_end s g is n (elements_of c.loop-turn.made) a b w past c.loop-turn.invariant in
    subst (λ (x : Book). Writes (IsOf Global) a c.finished.result x (and_then w (λ us. value (values.sequence us) free))) (sym c.in_ok-close.ensures)
    (subst (λ (m : ℕ). Writes (IsOf Global) a c.finished.result (closed m b) (and_then w (λ us. value (values.sequence us) free))) (sym here)
    (finished_end c.finished.result (elements_of c.loop-turn.made) a (closed n b) w c.finished.ensures ended))

pub places_kept-loop-turn-init : goal.places_kept-loop-turn-init
places_kept-loop-turn-init t c =
    let bs = binders_in c.args.drawn.now.bindings.now in
    let vs = map value_tree c.args.drawn.now.sequences.now in
    let k = c.args.filter.now.span in
    let g : Span → ℕ → Traced (List ℕ) = λ s. kept_there (parts_of c.args.at.now) s bs vs (scope_in c.args.at.now) (tree_of c.args.filter.now) in
    let is = range_with_len 0 c.args.len in
    let a = book c.args.run.now in
    let w : Span → Traced (List ℕ) = λ s. all_beside k (g s) is in
    λ s. subst (λ (y : List ℕ). LeadsTurns 0 a y (w s) a (w s)) (sym c.new-kept.ensures.items) (turns_start a (w s))

pub places_kept-returns-in_err-note : goal.places_kept-returns-in_err-note
places_kept-returns-in_err-note t c =
    let bs = binders_in c.args.drawn.now.bindings.now in
    let vs = map value_tree c.args.drawn.now.sequences.now in
    let k = c.args.filter.now.span in
    let g : Span → ℕ → Traced (List ℕ) = λ s. kept_there (parts_of c.args.at.now) s bs vs (scope_in c.args.at.now) (tree_of c.args.filter.now) in
    let is = range_with_len 0 c.args.len in
    let a = book c.args.run.now in
    let w : Span → Traced (List ℕ) = λ s. all_beside k (g s) is in
    let e = err_from_is_err_and c.from_residual.result c.from_residual.ensures.1 in rw (e.1, e.2) (
    rw c.in_err-note.ensures (λ s. memory_any ArePlaces a (book c.note.new.self) (w s)))

pub places_kept-returns-in_err-note-2 : goal.places_kept-returns-in_err-note-2
places_kept-returns-in_err-note-2 t c =
    let bs = binders_in c.args.drawn.now.bindings.now in
    let vs = map value_tree c.args.drawn.now.sequences.now in
    let k = c.args.filter.now.span in
    let g : Span → ℕ → Traced (List ℕ) = λ s. kept_there (parts_of c.args.at.now) s bs vs (scope_in c.args.at.now) (tree_of c.args.filter.now) in
    let is = range_with_len 0 c.args.len in
    let a = book c.args.run.now in
    let w : Span → Traced (List ℕ) = λ s. all_beside k (g s) is in
    let e = err_from_is_err_and c.from_residual-in_err-note-2.result c.from_residual-in_err-note-2.ensures.1 in rw (e.1, e.2) (
    rw c.in_err-note-2.ensures (λ s. memory_any ArePlaces a (book c.note-in-loop-turn.new.self) (w s)))

pub places_kept-returns-in_err-hold_if-in-Ok : goal.places_kept-returns-in_err-hold_if-in-Ok
places_kept-returns-in_err-hold_if-in-Ok t c =
    let bs = binders_in c.args.drawn.now.bindings.now in
    let vs = map value_tree c.args.drawn.now.sequences.now in
    let k = c.args.filter.now.span in
    let g : Span → ℕ → Traced (List ℕ) = λ s. kept_there (parts_of c.args.at.now) s bs vs (scope_in c.args.at.now) (tree_of c.args.filter.now) in
    let is = range_with_len 0 c.args.len in
    let a = book c.args.run.now in
    let w : Span → Traced (List ℕ) = λ s. all_beside k (g s) is in
    let e = err_from_is_err_and c.from_residual-in_err-hold_if-in-Ok.result c.from_residual-in_err-hold_if-in-Ok.ensures.1 in rw (e.1, e.2) (
    rw c.in_err-hold_if-in-Ok.ensures (λ s. memory_any ArePlaces a (book c.note-in-loop-turn.new.self) (w s)))

pub places_kept-returns-in_err-close-in-Err : goal.places_kept-returns-in_err-close-in-Err
places_kept-returns-in_err-close-in-Err t c =
    let bs = binders_in c.args.drawn.now.bindings.now in
    let vs = map value_tree c.args.drawn.now.sequences.now in
    let k = c.args.filter.now.span in
    let g : Span → ℕ → Traced (List ℕ) = λ s. kept_there (parts_of c.args.at.now) s bs vs (scope_in c.args.at.now) (tree_of c.args.filter.now) in
    let is = range_with_len 0 c.args.len in
    let a = book c.args.run.now in
    let w : Span → Traced (List ℕ) = λ s. all_beside k (g s) is in
    let e = err_from_is_err_and c.from_residual-in_err-close-in-Err.result c.from_residual-in_err-close-in-Err.ensures.1 in rw (e.1, e.2) (
    rw c.in_err-close-in-Err.ensures (λ s. memory_any ArePlaces a (book c.close.new.self) (w s)))

pub places_kept-returns-in_err-close : goal.places_kept-returns-in_err-close
places_kept-returns-in_err-close t c =
    let bs = binders_in c.args.drawn.now.bindings.now in
    let vs = map value_tree c.args.drawn.now.sequences.now in
    let k = c.args.filter.now.span in
    let g : Span → ℕ → Traced (List ℕ) = λ s. kept_there (parts_of c.args.at.now) s bs vs (scope_in c.args.at.now) (tree_of c.args.filter.now) in
    let is = range_with_len 0 c.args.len in
    let a = book c.args.run.now in
    let w : Span → Traced (List ℕ) = λ s. all_beside k (g s) is in
    let e = err_from_is_err_and c.from_residual-in_err-close.result c.from_residual-in_err-close.ensures.1 in rw (e.1, e.2) (
    rw c.in_err-close.ensures (λ s. memory_any ArePlaces a (book c.close-2.new.self) (w s)))

pub places_kept-loop-turn-preserved : goal.places_kept-loop-turn-preserved
places_kept-loop-turn-preserved t c =
    let bs = binders_in c.args.drawn.now.bindings.now in
    let vs = map value_tree c.args.drawn.now.sequences.now in
    let k = c.args.filter.now.span in
    let g : Span → ℕ → Traced (List ℕ) = λ s. kept_there (parts_of c.args.at.now) s bs vs (scope_in c.args.at.now) (tree_of c.args.filter.now) in
    let is = range_with_len 0 c.args.len in
    let a = book c.args.run.now in
    let w : Span → Traced (List ℕ) = λ s. all_beside k (g s) is in
    let n = c.loop-turn.turn in
    let b = book c.loop-turn.run in
    let d = book c.holds_at-found.new.run in
    let i = c.at-place.result in
    let ran : (s : Span) → Writes (IsKeptPlace i) (noted (turn k i) b) (Ok c.in-Ok.holds) d (g s i) =
    λ s. subst (λ (x : Book). Writes (IsKeptPlace i) x (Ok c.in-Ok.holds) d (g s i)) c.in_ok-note.ensures
    (subst (λ (x : Result Bool Unfinished). Writes (IsKeptPlace i) (book c.note.new.self) x d (g s i)) c.in-Ok.is (c.holds_at-found.ensures s)) in
    λ s. subst (λ (x : Book). LeadsTurns (n + 1) x c.hold_if.new.kept.items (all_beside k (g s) (drop (n + 1) is)) a (w s)) (sym c.in_ok-note-2.ensures)
    (subst (λ (y : List ℕ). LeadsTurns (n + 1) (noted others d) y (all_beside k (g s) (drop (n + 1) is)) a (w s)) (sym c.in_ok-hold_if-in-Ok.ensures)
    (turns_step k (g s) is (IsKeptPlace i) n i c.in-Ok.holds c.loop-turn.kept.items (cond c.in-Ok.holds (i ∷ []) []) a b d (w s) c.at-place.ensures (λ zs e. e) (c.loop-turn.invariant s) (ran s)))

pub places_kept-returns-in-Err : goal.places_kept-returns-in-Err
places_kept-returns-in-Err t c =
    let bs = binders_in c.args.drawn.now.bindings.now in
    let vs = map value_tree c.args.drawn.now.sequences.now in
    let k = c.args.filter.now.span in
    let g : Span → ℕ → Traced (List ℕ) = λ s. kept_there (parts_of c.args.at.now) s bs vs (scope_in c.args.at.now) (tree_of c.args.filter.now) in
    let is = range_with_len 0 c.args.len in
    let a = book c.args.run.now in
    let w : Span → Traced (List ℕ) = λ s. all_beside k (g s) is in
    let n = c.loop-turn.turn in
    let b = book c.loop-turn.run in
    let d = book c.holds_at-found.new.run in
    let i = c.at-place.result in
    let e = c.in-Err.halt in
    let ran : (s : Span) → Writes (IsKeptPlace i) (noted (turn k i) b) (Err e) d (g s i) =
    λ s. subst (λ (x : Book). Writes (IsKeptPlace i) x (Err e) d (g s i)) c.in_ok-note.ensures
    (subst (λ (x : Result Bool Unfinished). Writes (IsKeptPlace i) (book c.note.new.self) x d (g s i)) c.in-Err.is (c.holds_at-found.ensures s)) in
    λ s. err_same Same ArePlaces e a (book c.close.new.self) (w s)
    (subst (λ (x : Book). Writes Same a (Err e) x (w s)) (sym c.in_ok-close-in-Err.ensures)
    (subst (λ (x : Book). Writes Same a (Err e) (closed (n + 1) x) (w s)) (sym c.in_ok-note-2.ensures)
    (turns_stop k (g s) is (IsKeptPlace i) n i e c.loop-turn.kept.items a b d (w s) c.at-place.ensures (c.loop-turn.invariant s) (ran s))))

pub places_kept-returns : goal.places_kept-returns
places_kept-returns t c =
    let bs = binders_in c.args.drawn.now.bindings.now in
    let vs = map value_tree c.args.drawn.now.sequences.now in
    let k = c.args.filter.now.span in
    let g : Span → ℕ → Traced (List ℕ) = λ s. kept_there (parts_of c.args.at.now) s bs vs (scope_in c.args.at.now) (tree_of c.args.filter.now) in
    let is = range_with_len 0 c.args.len in
    let a = book c.args.run.now in
    let w : Span → Traced (List ℕ) = λ s. all_beside k (g s) is in
    let n = c.loop-turn.turn in
    let b = book c.loop-turn.run in
    let here : c.len.result ≡ n = omega (arith, c.loop-turn-test.false, c.loop-turn.auto.turn-end, c.len-turn-end.ensures, c.len.ensures) in
    let past : length is ≤ n = omega (arith, c.loop-turn-test.false, c.len-turn-end.ensures) in
    λ s. subst (λ (x : Book). Writes ArePlaces a (Ok c.loop-turn.kept) x (w s)) (sym c.in_ok-close.ensures)
    (subst (λ (m : ℕ). Writes ArePlaces a (Ok c.loop-turn.kept) (closed m b) (w s)) (sym here)
    (ok_same Same ArePlaces (c.loop-turn.kept.items ++ []) c.loop-turn.kept a (closed n b) (w s) (λ x e. sym (append-nil c.loop-turn.kept.items) ∙ e)
    (turns_end k (g s) is n c.loop-turn.kept.items a b (w s) past (c.loop-turn.invariant s))))

pub filtered-returns-in_err-kept : goal.filtered-returns-in_err-kept
filtered-returns-in_err-kept t c =
    let f = parts_of c.args.at.now in
    let sc = scope_in c.args.at.now in
    let s = c.args.span in
    let bs = binders_in c.args.bindings.now in
    let e = tree_of c.args.body.now in
    let k = tree_of c.args.filter.now in
    let a = book c.args.run.now in
    let b = book c.values_drawn.new.run in
    let d = book c.places_kept.new.run in
    let n = c.in_ok-len.len in
    let kept : List Value → List ℕ → Traced (List ℕ) = λ vs is. kept_places f s bs vs sc k is in
    let all : List Value → List ℕ → Traced Value = λ vs is. and_then (kept vs is) (body_values f s bs vs sc e) in
    let vs = map value_tree c.as_slice-sequences.result.now in
    let long = subst (λ (y : List (code.Value Global)). Writes LenIs b (Ok n) b (places_at s (map value_tree y))) c.as_slice-sequences.ensures.value (c.in_ok-len.ensures b) in
    let p = err_from_is_err_and c.from_residual-in_err-kept.result c.from_residual-in_err-kept.ensures.1 in
    let h = c.in_err-kept.field-0.0 in rw (p.1, p.2) (
    over_done s all c.in_ok-values.values n (Err h) a b d (all_parts f sc (sources bs)) c.in_ok-values.ensures long
    (subst (λ (y : List (code.Value Global)). Writes (IsOf Global) b (Err h) d (all (map value_tree y) (range_with_len 0 n))) c.as_slice-sequences.ensures.value
    (stopped ArePlaces (IsOf Global) h b d (kept vs (range_with_len 0 n)) (body_values f s bs vs sc e) (c.in_err-kept.ensures s))))

pub filtered-returns : goal.filtered-returns
filtered-returns t c =
    let f = parts_of c.args.at.now in
    let sc = scope_in c.args.at.now in
    let s = c.args.span in
    let bs = binders_in c.args.bindings.now in
    let e = tree_of c.args.body.now in
    let k = tree_of c.args.filter.now in
    let a = book c.args.run.now in
    let b = book c.values_drawn.new.run in
    let d = book c.places_kept.new.run in
    let n = c.in_ok-len.len in
    let kept : List Value → List ℕ → Traced (List ℕ) = λ vs is. kept_places f s bs vs sc k is in
    let all : List Value → List ℕ → Traced Value = λ vs is. and_then (kept vs is) (body_values f s bs vs sc e) in
    let vs = map value_tree c.as_slice-sequences.result.now in
    let long = subst (λ (y : List (code.Value Global)). Writes LenIs b (Ok n) b (places_at s (map value_tree y))) c.as_slice-sequences.ensures.value (c.in_ok-len.ensures b) in
    let r = c.bodies.result in
    let l = book c.bodies.new.run in
    over_done s all c.in_ok-values.values n r a b l (all_parts f sc (sources bs)) c.in_ok-values.ensures long
    (subst (λ (y : List (code.Value Global)). Writes (IsOf Global) b r l (all (map value_tree y) (range_with_len 0 n))) c.as_slice-sequences.ensures.value
    (chained ArePlaces (IsOf Global) c.in_ok-kept.kept r b d l (kept vs (range_with_len 0 n)) (body_values f s bs vs sc e) (c.in_ok-kept.ensures s)
    (λ is q. subst (λ (x : List ℕ). Writes (IsOf Global) d r l (body_values f s bs vs sc e x)) (c.as_slice.ensures.value ∙ q) c.bodies.ensures)))

pub call-returns-in-Some-Datatype : goal.call-returns-in-Some-Datatype
call-returns-in-Some-Datatype t c =
    let f = parts_of c.args.at.now in
    let a = book c.args.run.now in
    let b = book c.eval.new.run in
    let v = c.in_ok-value.value in
    let o = f (scope_in c.args.at.now) (tree_of c.args.argument.now) in
    let x = c.args.name.now in
    let s = c.args.span in
    let u = look_up (environment_of c.args.at.now) x in
    let k = c.in-Some-Datatype.tag in
    chained_value (IsOf Global) v c.halted.result a b b o _ c.in_ok-value.ensures
    (retold (IsOf Global) c.halted.result b b _ _ (call_datatype f x s (builtin_named x) u k (value_tree v) (sym c.in_default.is ∙ c.named.ensures) (subst (λ (k : Callee). Calls (Some k) u) c.in-Some-Datatype.field-0-is c.in-Some-Datatype.ensures))
    (subst (λ (r : Result (code.Value Global) Unfinished). Writes (IsOf Global) b r b (charged s (small_enough s (values.tagged k (value_tree v))))) (sym c.halted.ensures)
    (at_once (IsOf Global) s b c.make_record.result _ c.make_record.ensures)))

pub call-returns : goal.call-returns
call-returns t c =
    let f = parts_of c.args.at.now in
    let a = book c.args.run.now in
    let b = book c.eval.new.run in
    let v = c.in_ok-value.value in
    let o = f (scope_in c.args.at.now) (tree_of c.args.argument.now) in
    let x = c.args.name.now in
    let s = c.args.span in
    let u = look_up (environment_of c.args.at.now) x in
    chained_value (IsOf Global) v (Err Stuck) a b b o _ c.in_ok-value.ensures
    (call_none f x s (builtin_named x) u (value_tree v) b (sym c.in_default.is ∙ c.named.ensures) c.in-None.ensures)

pub body_of-returns-in_err-scope : goal.body_of-returns-in_err-scope
body_of-returns-in_err-scope t c =
    let f = parts_of c.args.at.now in
    let a = book c.args.run.now in
    let x = c.args.called.now.name.now in
    let s = c.args.called.now.span in
    let p = pattern_tree c.args.called.now.pattern.now in
    let v = value_tree c.args.called.now.argument.now in
    let e = tree_of c.args.called.now.body.now in
    let w = at_call x s (in_bound f p v (outside []) e) in
    let q = err_from_is_err_and c.from_residual.result c.from_residual.ensures.1 in rw (q.1, q.2) (
    elim c.in_err-scope.ensures [
      | inl m ↦ rw m (memory_any (IsOf Global) a a w)
      | inr n ↦ rw n.0 (call_unbound f x s p v e a n.1)
    ])

pub body_of-returns-in_err-note : goal.body_of-returns-in_err-note
body_of-returns-in_err-note t c =
    let f = parts_of c.args.at.now in
    let a = book c.args.run.now in
    let x = c.args.called.now.name.now in
    let s = c.args.called.now.span in
    let p = pattern_tree c.args.called.now.pattern.now in
    let v = value_tree c.args.called.now.argument.now in
    let e = tree_of c.args.called.now.body.now in
    let w = at_call x s (in_bound f p v (outside []) e) in
    let q = err_from_is_err_and c.from_residual-in_err-note.result c.from_residual-in_err-note.ensures.1 in rw (q.1, q.2) (
    rw c.in_err-note.ensures (memory_any (IsOf Global) a (book c.note.new.self) w))

pub body_of-returns-in_err-note-2 : goal.body_of-returns-in_err-note-2
body_of-returns-in_err-note-2 t c =
    let f = parts_of c.args.at.now in
    let a = book c.args.run.now in
    let x = c.args.called.now.name.now in
    let s = c.args.called.now.span in
    let p = pattern_tree c.args.called.now.pattern.now in
    let v = value_tree c.args.called.now.argument.now in
    let e = tree_of c.args.called.now.body.now in
    let w = at_call x s (in_bound f p v (outside []) e) in
    let q = err_from_is_err_and c.from_residual-in_err-note-2.result c.from_residual-in_err-note-2.ensures.1 in rw (q.1, q.2) (
    rw c.in_err-note-2.ensures (memory_any (IsOf Global) a (book c.note-2.new.self) w))
