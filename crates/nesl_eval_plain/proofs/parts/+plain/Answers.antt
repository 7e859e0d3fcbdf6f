use Rattle.std.proofs.Common.{◌≡◌, ◌+◌, [], ◌∷◌, arith, refl, sym, ap, ◌∙◌, subst, drop}
use Rattle.std.specs.Prelude.{slice_get}
use Rattle.std.proofs.lemmas.List.{drop_more, drop_all}
use Rattle.nesl_eval_code.specs.Frames.{Frames}
use Rattle.nesl_eval_code.specs.Run.{run, run_node, run_let, slot_at}
use Rattle.nesl_eval_columns.specs.Columns.{leaves_of}
use Rattle.nesl_eval_columns.proofs.Turns.{some_so}
use Rattle.nesl_eval_nodes.proofs.Rows.{node-Let}
use Rattle.nesl_eval_column_results.specs.Columns.{value_at}
use Rattle.nesl_eval_column_results.specs.Costs.{costs_at}
use Rattle.nesl_eval_column_results.specs.Frames.{frames_in, AreAt, leaf_at, cost_at}
use Rattle.nesl_eval_plain.proofs.Choosing.{choice_finds, all_yes, all_no, both_sides}
use Rattle.nesl_values.specs.View.{tree_of}
use Rattle.nesl_eval_plain.proofs.Framing.{let_at, called_at, turns_at}
use Rattle.nesl_eval_plain.proofs.Finding.{at_so, entered_finds, same_find, applied_finds, two_finds, pairs_find, element_finds, call_finds, along_begun, along_next, along_done}
use Rattle.nesl_eval_plain.proofs.parts.+plain.Goals as goal

pub results-returns : goal.results-returns
results-returns g t c =
    let b = c.args.block.now in
    let tb = g.T.Tops.table b.tops.now in
    let n = c.args.reach.levels in
    let f = c.in_ok-found.found in
    let at = frames_in b c.args.scopes.now in
    let inside = c.in_ok-inside.ensures in
    let found = subst (λ m. AreAt (λ fs. run_node (run m tb) tb fs c.args.code.now) at (value_at f.values) (costs_at f.costs)) inside.1 c.in_ok-found.ensures in
    some_so _ _ (λ r e. entered_finds n tb c.args.code.now at (value_at f.values) (value_at r.values) (costs_at f.costs) (costs_at r.costs) inside.0 (ap value_at e.1) e.0 found) c.entered.result c.entered.ensures

pub column-returns : goal.column-returns
column-returns g t c =
    let b = c.args.block.now in
    let tb = g.T.Tops.table b.tops.now in
    let r = c.in_ok-values.field-0 in
    same_find (λ fs. run c.args.reach.levels tb fs c.args.code.now) (frames_in b c.args.scopes.now) c.count-count.result (value_at r.values) (slice_get (leaves_of c.in_ok-column.column)) (costs_at r.costs) c.count-count.ensures c.in_ok-column.ensures c.in_ok-values.ensures

pub node-returns-in_ok-values-in_default : goal.node-returns-in_ok-values-in_default
node-returns-in_ok-values-in_default g t c =
    let tb = g.T.Tops.table c.args.block.now.tops.now in
    rw (c.free.ensures.0, c.free.ensures.1, c.free.ensures.2) (c.in_ok-values-in_default.ensures (run c.args.reach.levels tb))

pub node-returns-in-Pair : goal.node-returns-in-Pair
node-returns-in-Pair g t c = rw (c.in-Pair.is, ← c.deref.ensures, ← c.deref-in-Pair.ensures) (c.in_pair.ensures c.in-Pair.span)

pub in_pair-returns : goal.in_pair-returns
in_pair-returns g t c = λ s.
    let b = c.args.block.now in
    let one = c.in_ok-one.one in
    let other = c.in_ok-other.other in
    let tb = g.T.Tops.table b.tops.now in
    let at = frames_in b c.args.scopes.now in
    let second = subst (λ n. AreAt (λ fs. run n tb fs c.args.right.now) at (value_at other.values) (costs_at other.costs)) c.in_ok-inside.ensures.0 c.in_ok-other.ensures in
    pairs_find (run c.args.reach.levels tb) at c.args.left.now c.args.right.now s (costs_at one.costs) (costs_at other.costs) (costs_at c.in_ok-costs.costs) (value_at one.values) (value_at other.values) (value_at c.in_ok-values.values) c.in_ok-one.ensures second c.in_ok-values.ensures c.in_ok-costs.ensures

pub apply-returns : goal.apply-returns
apply-returns g t c = λ s.
    let b = c.args.block.now in
    let r = c.in_ok-values.field-0 in
    applied_finds (λ fs. run c.args.reach.levels (g.T.Tops.table b.tops.now) fs c.args.argument.now) (frames_in b c.args.scopes.now) s c.args.function c.count-count.result (value_at r.values) c.in_ok-made.made (costs_at r.costs) c.count-count.ensures (c.in_ok-made.ensures s) c.in_ok-values.ensures

pub element-returns-in_ok-costs-in-ElementAt : goal.element-returns-in_ok-costs-in-ElementAt
element-returns-in_ok-costs-in-ElementAt g t c = λ s.
    let b = c.args.block.now in
    let one = c.in_ok-one-in-ElementAt.one in
    let places = c.in_ok-places-in-ElementAt.places in
    rw c.in-ElementAt.is (element_finds (run c.args.reach.levels (g.T.Tops.table b.tops.now)) (frames_in b c.args.scopes.now) c.args.left.now c.args.right.now s (tree_of c.in_ok-sequence-in-ElementAt.sequence) (value_at one.values) (costs_at one.costs) (cost_at places) (costs_at c.in_ok-costs-in-ElementAt.costs) (leaves_of places.column) (leaves_of c.in_ok-column-in-ElementAt.column) c.in_ok-sequence-in-ElementAt.ensures c.in_ok-one-in-ElementAt.ensures c.in_ok-places-in-ElementAt.ensures c.in_ok-column-in-ElementAt.ensures c.in_ok-costs-in-ElementAt.ensures)

pub two-returns : goal.two-returns
two-returns g t c = λ s.
    let b = c.args.block.now in
    let one = c.in_ok-one.one in
    let other = c.in_ok-other.other in
    two_finds (run c.args.reach.levels (g.T.Tops.table b.tops.now)) (frames_in b c.args.scopes.now) c.args.left.now c.args.right.now s c.args.function (cost_at one) (cost_at other) (costs_at c.in_ok-costs.costs) (leaves_of one.column) (leaves_of other.column) (leaves_of c.in_ok-column.column) c.in_ok-one.ensures c.in_ok-other.ensures c.in_ok-column.ensures c.in_ok-costs.ensures

pub node-returns-in-Apply : goal.node-returns-in-Apply
node-returns-in-Apply g t c = rw (c.in-Apply.is, ← c.deref-in-Apply.ensures) (c.apply.ensures c.in-Apply.span)

pub node-returns-in-ApplyTwo : goal.node-returns-in-ApplyTwo
node-returns-in-ApplyTwo g t c = rw (c.in-ApplyTwo.is, ← c.deref-in-ApplyTwo.ensures, ← c.deref-in-ApplyTwo-2.ensures) (c.apply_two.ensures c.in-ApplyTwo.span)

pub node-returns-in-Let : goal.node-returns-in-Let
node-returns-in-Let g t c =
    let b = c.args.block.now in
    let tb = g.T.Tops.table b.tops.now in
    let f = run c.args.reach.levels tb in
    let cs = c.deref-in-Let.result.now in
    let e = c.deref-in-Let-2.result.now in
    let same : (fs : Frames) → run_node f tb fs c.args.code.now ≡ run_let f fs [] cs e =
    λ fs. ap (run_node f tb fs) c.in-Let.is ∙ node-Let f tb fs c.in-Let.span c.in-Let.bindings c.in-Let.body ∙ ap (λ ds. run_let f fs [] ds c.in-Let.body.value) (sym c.deref-in-Let.ensures.value) ∙ ap (run_let f fs [] cs) (sym c.deref-in-Let-2.ensures) in
    some_so _ _ (λ r h. at_so (λ fs. run_node f tb fs c.args.code.now) (λ fs. run_let f fs [] cs e) (frames_in b c.args.scopes.now) (value_at r.values) (costs_at r.costs) same h) c.in_let.result c.in_let.ensures

pub apply_two-returns-in-OfTwo : goal.apply_two-returns-in-OfTwo
apply_two-returns-in-OfTwo g t c = λ s. rw c.in-OfTwo.is (c.two.ensures s)

pub apply_two-returns-in-OfSequences : goal.apply_two-returns-in-OfSequences
apply_two-returns-in-OfSequences g t c = λ s. rw c.in-OfSequences.is (c.element.ensures s)

pub in_let-loop-binding-init : goal.in_let-loop-binding-init
in_let-loop-binding-init g t c =
    let b = c.args.block.now in
    along_begun (run c.args.reach.levels (g.T.Tops.table b.tops.now)) (frames_in b c.args.scopes.now) c.args.bindings.now c.args.body.now c.new-columns.result.items c.new-columns.ensures.items

pub in_let-loop-binding-preserved : goal.in_let-loop-binding-preserved
in_let-loop-binding-preserved g t c =
    let b = c.args.block.now in
    let k = c.loop-binding in
    let cs = c.args.bindings.now in
    let u = c.in_ok-bound.bound in
    let i = k.binding-index in
    let tb = g.T.Tops.table b.tops.now in
    along_next (run c.args.reach.levels tb) (run c.in_ok-inside.inside.levels tb) (frames_in b c.args.scopes.now) _ cs c.args.body.now c.binding-item.result k.columns.items c.keep.new.bindings.items u.values (drop (i + 1) cs) (drop i cs) (costs_at k.costs) (costs_at u.costs) (costs_at c.in_ok-costs.costs)
    (drop_more cs i c.binding-item.result c.loop-binding-test.true ∙ ap (λ x. x ∷ drop (i + 1) cs) (sym c.binding-item.is)) (ap (λ n. run n tb) c.in_ok-inside.ensures.0) k.invariant c.in_ok-bound.ensures (λ j fs e. let_at b _ k.columns.items _ j fs c.deref.ensures.value e) c.in_ok-keep.ensures c.in_ok-costs.ensures

pub in_let-returns : goal.in_let-returns
in_let-returns g t c =
    let b = c.args.block.now in
    let k = c.loop-binding in
    let cs = c.args.bindings.now in
    let u = c.in_ok-last.last in
    let tb = g.T.Tops.table b.tops.now in
    along_done (run c.args.reach.levels tb) (run c.in_ok-inside-2.inside.levels tb) (frames_in b c.args.scopes.now) _ cs c.args.body.now k.columns.items (drop k.binding-index cs) (value_at u.values) (costs_at k.costs) (costs_at u.costs) (costs_at c.in_ok-all.all)
    (drop_all k.binding-index cs (omega arith)) (ap (λ n. run n tb) c.in_ok-inside-2.ensures.0) k.invariant c.in_ok-last.ensures (λ j fs e. let_at b _ k.columns.items _ j fs c.deref-2.ensures.value e) c.in_ok-all.ensures

pub node-returns-in-Choice : goal.node-returns-in-Choice
node-returns-in-Choice g t c = rw (c.in-Choice.is, ← c.deref-in-Choice.ensures, ← c.deref-in-Choice-2.ensures, ← c.deref-in-Choice-3.ensures) c.choice.ensures

pub choice-returns : goal.choice-returns
choice-returns g t c =
    let b = c.args.block.now in
    let test = c.in_ok-column.field-0 in
    let r = c.in_ok-chosen.chosen in
    choice_finds (run c.args.reach.levels (g.T.Tops.table b.tops.now)) (frames_in b c.args.scopes.now) c.args.test.now c.args.yes.now c.args.no.now c.in_ok-sides.sides.flags.items (leaves_of test.column) (leaf_at r) (cost_at test) (cost_at r) (costs_at c.in_ok-all.all) c.in_ok-column.ensures c.in_ok-sides.ensures.0 c.in_ok-chosen.ensures c.in_ok-all.ensures

pub chosen-returns-then-is_none : goal.chosen-returns-then-is_none
chosen-returns-then-is_none g t c =
    let b = c.args.block.now in
    let f = run c.args.reach.levels (g.T.Tops.table b.tops.now) in
    let s = c.args.sides.now in
    some_so _ _ (λ r h. all_yes s.flags.items s.yes.items s.no.items s.ranks.items (λ fs. f fs c.args.yes.now) (λ fs. f fs c.args.no.now) (frames_in b c.args.scopes.now) (leaf_at r) (cost_at r) c.requires.sorted (sym c.deref.ensures.value ∙ c.is_none.ensures.0 c.if-is_none.true) h) c.column.result c.column.ensures

pub chosen-returns-then-is_none-2 : goal.chosen-returns-then-is_none-2
chosen-returns-then-is_none-2 g t c =
    let b = c.args.block.now in
    let f = run c.args.reach.levels (g.T.Tops.table b.tops.now) in
    let s = c.args.sides.now in
    some_so _ _ (λ r h. all_no s.flags.items s.yes.items s.no.items s.ranks.items (λ fs. f fs c.args.yes.now) (λ fs. f fs c.args.no.now) (frames_in b c.args.scopes.now) (leaf_at r) (cost_at r) c.requires.sorted (sym c.deref-2.ensures.value ∙ c.is_none-2.ensures.0 c.if-is_none-2.true) h) c.column-then-is_none-2.result c.column-then-is_none-2.ensures

pub chosen-returns : goal.chosen-returns
chosen-returns g t c =
    let b = c.args.block.now in
    let f = run c.args.reach.levels (g.T.Tops.table b.tops.now) in
    let s = c.args.sides.now in
    let at = frames_in b c.args.scopes.now in
    let one = c.in_ok-one.one in
    let other = c.in_ok-other.other in
    some_so _ _ (λ r h. both_sides s.flags.items s.yes.items s.no.items s.ranks.items (λ fs. f fs c.args.yes.now) (λ fs. f fs c.args.no.now) at _ _ (leaf_at one) (leaf_at other) (leaf_at r) (cost_at one) (cost_at other) (cost_at r) c.requires.sorted (λ k. turns_at b _ s.yes.items _ c.args.scopes.now k c.deref-3.ensures.value refl) (λ k. turns_at b _ s.no.items _ c.args.scopes.now k c.deref-4.ensures.value refl) c.in_ok-one.ensures c.in_ok-other.ensures h.0 h.1) c.merged.result c.merged.ensures

pub node-returns-in-Call : goal.node-returns-in-Call
node-returns-in-Call g t c = rw (c.in-Call.is, ← c.deref-in-Call.ensures) (c.call.ensures c.in-Call.span)

pub call-returns : goal.call-returns
call-returns g t c = λ s.
    let b = c.args.block.now in
    let tb = g.T.Tops.table b.tops.now in
    let r = c.in_ok-values.field-0 in
    let last = c.in_ok-last.last in
    call_finds (run c.args.reach.levels tb) (run c.in_ok-inside.inside.levels tb) (frames_in b c.args.scopes.now) _ c.args.argument.now c.in_ok-body.body.now s (slot_at tb c.args.place) (value_at r.values) (value_at last.values) (costs_at r.costs) (costs_at last.costs) (costs_at c.in_ok-all.all) c.in_ok-body.ensures (ap (λ n. run n tb) c.in_ok-inside.ensures.0) c.in_ok-values.ensures c.in_ok-last.ensures (λ k fs e. called_at b _ r.values _ k fs refl e) c.in_ok-all.ensures
