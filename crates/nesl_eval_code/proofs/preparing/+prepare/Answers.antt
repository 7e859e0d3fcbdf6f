use Rattle.std.proofs.Common.{◌≡◌, ◌∙◌, ap, sym, subst, refl, arith, ℕ, List, [], ◌∷◌, length, take, to_z, of_z, w64}
use Rattle.nesl_syntax_tree.specs.declared.tree.Exp.{Exp}
use Rattle.nesl_syntax_tree.specs.declared.tree.Node as declared
use Rattle.nesl_syntax_tree.specs.Trees.{Shape, node}
use Rattle.nesl_syntax_tree.specs.Views.{shape_of, tree_of, trees_in, binders_in, type_tree}
use Rattle.nesl_syntax_tree.specs.Trees as trees
use Rattle.nesl_builtins.specs.declared.builtin.Builtin.{Builtin}
use Rattle.nesl_builtins.specs.declared.builtin.Builtin.TheVariants.{OfSequences}
use Rattle.nesl_seqs_base.specs.declared.seq_fn.SeqFn.TheVariants as seq
use Rattle.nesl_eval_code.specs.declared.code.Code as code
use Rattle.nesl_syntax_tree.specs.Trees.{PatternTree}
use Rattle.nesl_eval_meaning.specs.Names.{Name}
use Rattle.nesl_eval_code.specs.Means.{Means, bindings, binders, patterns}
use Rattle.nesl_eval_code.specs.Resolving.{layers_of, known}
use Rattle.nesl_eval_code.proofs.Nodes as nodes
use Rattle.nesl_eval_code.proofs.Lists as lists
use Rattle.nesl_eval_code.proofs.Framed.{before_is, all_seen}
use Rattle.nesl_eval_code.proofs.Resolved.{if_ok, layers-Let, layers-Row}
use Rattle.nesl_eval_code.proofs.Prepared.{sequence_shape, let_shape, each_shape, filtered_shape, item_step, source_step, binding_step, bindings_done, inner_means, read_number, shown, boxed_shown, applied, of_two, of_three, of_list}
use Rattle.nesl_eval_code.proofs.preparing.+prepare.Goals as goal

pub code_of-returns-in-Number : goal.code_of-returns-in-Number
code_of-returns-in-Number t c =
    let names = known c.args.at.now.places.now in
    let ls = layers_of c.args.at.now.layers.now in
    let s = c.args.exp.now.span in
    subst (λ (k : declared.Node). Means names ls (code.Number s (to_z w64 (of_z w64 c.number.result))) (node s (shape_of k))) (sym c.in-Number.is)
    (nodes.means_number names ls s c.in-Number.value (to_z w64 (of_z w64 c.number.result)) (read_number c.number.result c.in-Number.value c.number.type_inv c.number.ensures))

pub code_of-returns-in-Truth : goal.code_of-returns-in-Truth
code_of-returns-in-Truth t c =
    let names = known c.args.at.now.places.now in
    let ls = layers_of c.args.at.now.layers.now in
    let s = c.args.exp.now.span in
    subst (λ (k : declared.Node). Means names ls (code.Truth s c.in-Truth.value) (node s (shape_of k))) (sym c.in-Truth.is)
    (nodes.means_truth names ls s c.in-Truth.value)

pub code_of-returns-in-Character : goal.code_of-returns-in-Character
code_of-returns-in-Character t c =
    let names = known c.args.at.now.places.now in
    let ls = layers_of c.args.at.now.layers.now in
    let s = c.args.exp.now.span in
    subst (λ (k : declared.Node). Means names ls (code.Character s c.in-Character.value) (node s (shape_of k))) (sym c.in-Character.is)
    (nodes.means_character names ls s c.in-Character.value)

pub code_of-returns-in-Text : goal.code_of-returns-in-Text
code_of-returns-in-Text t c =
    let names = known c.args.at.now.places.now in
    let ls = layers_of c.args.at.now.layers.now in
    let s = c.args.exp.now.span in
    shown names ls c.code_of_text.result s _ c.args.exp.now.node
    (ap shape_of c.in-Text.is ∙ ap (λ (x : List ℕ). trees.text x) (sym c.as_slice.ensures.value)) c.code_of_text.ensures

pub code_of-returns-in-Variable : goal.code_of-returns-in-Variable
code_of-returns-in-Variable t c =
    let names = known c.args.at.now.places.now in
    let ls = layers_of c.args.at.now.layers.now in
    let s = c.args.exp.now.span in
    shown names ls c.code_of_variable.result s _ c.args.exp.now.node
    (ap shape_of c.in-Variable.is ∙ ap (λ (x : Name). trees.variable x) (sym c.as_slice-in-Variable.ensures.value)) c.code_of_variable.ensures

pub boxed_code_of-returns-in-Variable : goal.boxed_code_of-returns-in-Variable
boxed_code_of-returns-in-Variable t c =
    let names = known c.args.at.now.places.now in
    let ls = layers_of c.args.at.now.layers.now in
    let s = c.args.exp.now.span in
    boxed_shown names ls c.boxed_variable.result s _ c.args.exp.now.node
    (ap shape_of c.in-Variable.is ∙ ap (λ (x : Name). trees.variable x) (sym c.as_slice.ensures.value)) c.boxed_variable.ensures

pub code_of-returns-in-Call : goal.code_of-returns-in-Call
code_of-returns-in-Call t c =
    let names = known c.args.at.now.places.now in
    let ls = layers_of c.args.at.now.layers.now in
    let s = c.args.exp.now.span in
    shown names ls c.code_of_applied.result s _ c.args.exp.now.node
    (ap shape_of c.in-Call.is
    ∙ ap (λ (x : Name). trees.call x (tree_of c.in-Call.argument.value)) (sym c.as_slice-in-Call.ensures.value)
    ∙ ap (λ (x : Exp). trees.call c.as_slice-in-Call.result.now (tree_of x)) (sym c.deref.ensures))
    c.code_of_applied.ensures

pub code_of_applied-returns : goal.code_of_applied-returns
code_of_applied-returns t c =
    if_ok c.code_of_call.result c.code_of_call.ensures (λ k h.
    h (layers_of c.args.at.now.layers.now) (tree_of c.args.argument.now) c.in_ok-argument.ensures)

pub code_of-returns-in-Pair : goal.code_of-returns-in-Pair
code_of-returns-in-Pair t c =
    let names = known c.args.at.now.places.now in
    let ls = layers_of c.args.at.now.layers.now in
    let s = c.args.exp.now.span in
    shown names ls c.code_of_pair.result s _ c.args.exp.now.node
    (ap shape_of c.in-Pair.is ∙ of_two trees.pair c.deref-in-Pair.result.now c.deref-in-Pair-2.result.now c.in-Pair.left.value c.in-Pair.right.value c.deref-in-Pair.ensures c.deref-in-Pair-2.ensures)
    c.code_of_pair.ensures

pub code_of-returns-in-Prefix : goal.code_of-returns-in-Prefix
code_of-returns-in-Prefix t c =
    let names = known c.args.at.now.places.now in
    let ls = layers_of c.args.at.now.layers.now in
    let s = c.args.exp.now.span in
    shown names ls c.code_of_prefix.result s _ c.args.exp.now.node
    (ap shape_of c.in-Prefix.is
    ∙ ap (λ (x : Exp). trees.prefix_of c.in-Prefix.operator (tree_of x)) (sym c.deref-in-Prefix.ensures))
    c.code_of_prefix.ensures

pub code_of_prefix-returns : goal.code_of_prefix-returns
code_of_prefix-returns t c =
    let names = known c.args.at.now.places.now in
    let ls = layers_of c.args.at.now.layers.now in
    let a = c.in_ok-argument.argument in
    let e = tree_of c.args.operand.now in
    subst (λ (f : Builtin). Means names ls (code.Apply c.args.span f a) (node c.args.span (trees.prefix_of c.args.operator e))) (sym c.of_prefix.ensures)
    (nodes.means_prefix names ls c.args.span c.args.operator a e c.in_ok-argument.ensures)

pub code_of-returns-in-Infix : goal.code_of-returns-in-Infix
code_of-returns-in-Infix t c =
    let names = known c.args.at.now.places.now in
    let ls = layers_of c.args.at.now.layers.now in
    let s = c.args.exp.now.span in
    let x = tree_of c.deref-in-Infix.result.now in
    let y = tree_of c.deref-in-Infix-2.result.now in
    applied names ls c.code_of_two.result s c.of_infix.result x y (trees.infix_of c.in-Infix.operator x y) c.args.exp.now.node
    (λ k l h i. subst (λ (f : Builtin). Means names ls (code.ApplyTwo s f k l) (node s (trees.infix_of c.in-Infix.operator x y))) (sym c.of_infix.ensures)
    (nodes.means_infix names ls s c.in-Infix.operator k l x y h i))
    (ap shape_of c.in-Infix.is ∙ of_two (trees.infix_of c.in-Infix.operator) c.deref-in-Infix.result.now c.deref-in-Infix-2.result.now c.in-Infix.left.value c.in-Infix.right.value c.deref-in-Infix.ensures c.deref-in-Infix-2.ensures)
    c.code_of_two.ensures

pub code_of-returns-in-Index : goal.code_of-returns-in-Index
code_of-returns-in-Index t c =
    let names = known c.args.at.now.places.now in
    let ls = layers_of c.args.at.now.layers.now in
    let s = c.args.exp.now.span in
    let x = tree_of c.deref-in-Index.result.now in
    let y = tree_of c.deref-in-Index-2.result.now in
    applied names ls c.code_of_two-in-Index.result s (OfSequences seq.ElementAt) x y (trees.index x y) c.args.exp.now.node
    (λ k l h i. nodes.means_index names ls s k l x y h i)
    (ap shape_of c.in-Index.is ∙ of_two (trees.index) c.deref-in-Index.result.now c.deref-in-Index-2.result.now c.in-Index.sequence.value c.in-Index.index.value c.deref-in-Index.ensures c.deref-in-Index-2.ensures)
    c.code_of_two-in-Index.ensures

pub code_of-returns-in-Range : goal.code_of-returns-in-Range
code_of-returns-in-Range t c =
    let names = known c.args.at.now.places.now in
    let ls = layers_of c.args.at.now.layers.now in
    let s = c.args.exp.now.span in
    let x = tree_of c.deref-in-Range.result.now in
    let y = tree_of c.deref-in-Range-2.result.now in
    applied names ls c.code_of_two-in-Range.result s (OfSequences seq.Range) x y (trees.range x y) c.args.exp.now.node
    (λ k l h i. nodes.means_range names ls s k l x y h i)
    (ap shape_of c.in-Range.is ∙ of_two (trees.range) c.deref-in-Range.result.now c.deref-in-Range-2.result.now c.in-Range.from.value c.in-Range.to.value c.deref-in-Range.ensures c.deref-in-Range-2.ensures)
    c.code_of_two-in-Range.ensures

pub code_of-returns-in-Choice : goal.code_of-returns-in-Choice
code_of-returns-in-Choice t c =
    let names = known c.args.at.now.places.now in
    let ls = layers_of c.args.at.now.layers.now in
    let s = c.args.exp.now.span in
    shown names ls c.code_of_choice.result s _ c.args.exp.now.node
    (ap shape_of c.in-Choice.is ∙ of_three trees.choice c.deref-in-Choice.result.now c.deref-in-Choice-2.result.now c.deref-in-Choice-3.result.now c.in-Choice.test.value c.in-Choice.yes.value c.in-Choice.no.value c.deref-in-Choice.ensures c.deref-in-Choice-2.ensures c.deref-in-Choice-3.ensures)
    c.code_of_choice.ensures

pub code_of-returns-in-StridedRange : goal.code_of-returns-in-StridedRange
code_of-returns-in-StridedRange t c =
    let names = known c.args.at.now.places.now in
    let ls = layers_of c.args.at.now.layers.now in
    let s = c.args.exp.now.span in
    shown names ls c.code_of_strided.result s _ c.args.exp.now.node
    (ap shape_of c.in-StridedRange.is ∙ of_three trees.strided_range c.deref-in-StridedRange.result.now c.deref-in-StridedRange-2.result.now c.deref-in-StridedRange-3.result.now c.in-StridedRange.from.value c.in-StridedRange.to.value c.in-StridedRange.stride.value c.deref-in-StridedRange.ensures c.deref-in-StridedRange-2.ensures c.deref-in-StridedRange-3.ensures)
    c.code_of_strided.ensures

pub code_of-returns-in-Sequence : goal.code_of-returns-in-Sequence
code_of-returns-in-Sequence t c =
    let names = known c.args.at.now.places.now in
    let ls = layers_of c.args.at.now.layers.now in
    let s = c.args.exp.now.span in
    shown names ls c.code_of_sequence.result s _ c.args.exp.now.node
    (ap shape_of c.in-Sequence.is ∙ sequence_shape c.in-Sequence.items
    ∙ ap (λ (es : List Exp). trees.sequence (trees_in es)) (sym c.as_slice-in-Sequence.ensures.value))
    c.code_of_sequence.ensures

pub code_of_sequence-returns : goal.code_of_sequence-returns
code_of_sequence-returns t c =
    let names = known c.args.at.now.places.now in
    let ls = layers_of c.args.at.now.layers.now in
    lists.means_sequence names ls c.args.span c.in_ok-parts.parts (trees_in c.args.items.now) c.in_ok-parts.ensures

pub code_of-returns-in-Empty : goal.code_of-returns-in-Empty
code_of-returns-in-Empty t c =
    let names = known c.args.at.now.places.now in
    let ls = layers_of c.args.at.now.layers.now in
    let s = c.args.exp.now.span in
    subst (λ (k : declared.Node). Means names ls (code.Empty s) (node s (shape_of k))) (sym c.in-Empty.is)
    (nodes.means_empty names ls s (type_tree c.in-Empty.field-0.value))

pub code_of-returns-in-Let : goal.code_of-returns-in-Let
code_of-returns-in-Let t c =
    let names = known c.args.at.now.places.now in
    let ls = layers_of c.args.at.now.layers.now in
    let s = c.args.exp.now.span in
    shown names ls c.code_of_let.result s _ c.args.exp.now.node
    (ap shape_of c.in-Let.is ∙ let_shape c.in-Let.bindings c.in-Let.body
    ∙ of_list trees.let_in c.as_slice-in-Let.result.now c.in-Let.bindings.items c.deref-in-Let.result.now c.in-Let.body.value c.as_slice-in-Let.ensures.value c.deref-in-Let.ensures)
    c.code_of_let.ensures

pub code_of-returns-in-Each : goal.code_of-returns-in-Each
code_of-returns-in-Each t c =
    let names = known c.args.at.now.places.now in
    let ls = layers_of c.args.at.now.layers.now in
    let s = c.args.exp.now.span in
    shown names ls c.code_of_each.result s _ c.args.exp.now.node
    (ap shape_of c.in-Each.is ∙ each_shape c.in-Each.body c.in-Each.bindings
    ∙ of_list (λ bs e. trees.each e bs) c.as_slice-in-Each.result.now c.in-Each.bindings.items c.deref-in-Each.result.now c.in-Each.body.value c.as_slice-in-Each.ensures.value c.deref-in-Each.ensures)
    c.code_of_each.ensures

pub code_of-returns-in-FilteredEach : goal.code_of-returns-in-FilteredEach
code_of-returns-in-FilteredEach t c =
    let names = known c.args.at.now.places.now in
    let ls = layers_of c.args.at.now.layers.now in
    let s = c.args.exp.now.span in
    shown names ls c.code_of_filtered.result s _ c.args.exp.now.node
    (ap shape_of c.in-FilteredEach.is ∙ filtered_shape c.in-FilteredEach.body c.in-FilteredEach.bindings c.in-FilteredEach.filter
    ∙ of_list (λ bs e. trees.filtered_each e bs (tree_of c.in-FilteredEach.filter.value)) c.as_slice-in-FilteredEach.result.now c.in-FilteredEach.bindings.items c.deref-in-FilteredEach.result.now c.in-FilteredEach.body.value c.as_slice-in-FilteredEach.ensures.value c.deref-in-FilteredEach.ensures
    ∙ ap (λ (f : Exp). trees.filtered_each (tree_of c.deref-in-FilteredEach.result.now) (binders_in c.as_slice-in-FilteredEach.result.now) (tree_of f)) (sym c.deref-in-FilteredEach-2.ensures))
    c.code_of_filtered.ensures

pub code_of_pair-returns : goal.code_of_pair-returns
code_of_pair-returns t c =
    let names = known c.args.at.now.places.now in
    let ls = layers_of c.args.at.now.layers.now in
    nodes.means_pair names ls c.args.span c.in_ok-left.left c.in_ok-right.right (tree_of c.args.left.now) (tree_of c.args.right.now) c.in_ok-left.ensures c.in_ok-right.ensures

pub code_of_two-returns : goal.code_of_two-returns
code_of_two-returns t c =
    (c.in_ok-left.left, c.in_ok-right.right, refl, c.in_ok-left.ensures, c.in_ok-right.ensures)

pub code_of_strided-returns : goal.code_of_strided-returns
code_of_strided-returns t c =
    let names = known c.args.at.now.places.now in
    let ls = layers_of c.args.at.now.layers.now in
    nodes.means_strided names ls c.args.span c.in_ok-first.first c.in_ok-second.second c.in_ok-third.third (tree_of c.args.from.now) (tree_of c.args.to.now) (tree_of c.args.stride.now) c.in_ok-first.ensures c.in_ok-second.ensures c.in_ok-third.ensures

pub code_of_choice-returns : goal.code_of_choice-returns
code_of_choice-returns t c =
    let names = known c.args.at.now.places.now in
    let ls = layers_of c.args.at.now.layers.now in
    nodes.means_choice names ls c.args.span c.in_ok-test.test c.in_ok-yes.yes c.in_ok-no.no (tree_of c.args.test.now) (tree_of c.args.yes.now) (tree_of c.args.no.now) c.in_ok-test.ensures c.in_ok-yes.ensures c.in_ok-no.ensures

pub code_of_let-returns : goal.code_of_let-returns
code_of_let-returns t c =
    let names = known c.args.at.now.places.now in
    let ls = layers_of c.args.at.now.layers.now in
    let bs = binders_in c.args.bound.now in
    let k = c.in_ok-codes in
    let f = k.field-0.frame in
    let seen = all_seen f.bound.now c.args.bound.now f.seen k.ensures.bound k.ensures.seen in
    lists.means_let names ls c.args.span k.field-0.codes c.in_ok-body.body bs (tree_of c.args.body.now) k.ensures.codes
    (inner_means names _ (bindings (patterns bs) ∷ ls) c.in_ok-body.body.value (tree_of c.args.body.now) (layers-Let _ _ ∙ ap (λ (ps : List PatternTree). bindings ps ∷ ls) seen) c.in_ok-body.ensures)

pub code_of_each-returns : goal.code_of_each-returns
code_of_each-returns t c =
    let names = known c.args.at.now.places.now in
    let ls = layers_of c.args.at.now.layers.now in
    let bs = binders_in c.args.drawn.now in
    let f = c.in_ok-frame in
    let seen = all_seen f.frame.bound.now c.args.drawn.now f.frame.seen f.ensures.bound f.ensures.seen in
    lists.means_each names ls c.args.span c.in_ok-sources.sources c.in_ok-body.body bs (tree_of c.args.body.now) c.in_ok-sources.ensures
    (inner_means names _ (binders (patterns bs) ∷ ls) c.in_ok-body.body.value (tree_of c.args.body.now) (layers-Row _ _ ∙ ap (λ (ps : List PatternTree). binders ps ∷ ls) seen) c.in_ok-body.ensures)

pub code_of_filtered-returns : goal.code_of_filtered-returns
code_of_filtered-returns t c =
    let names = known c.args.at.now.places.now in
    let ls = layers_of c.args.at.now.layers.now in
    let bs = binders_in c.args.drawn.now in
    let f = c.in_ok-frame in
    let seen = all_seen f.frame.bound.now c.args.drawn.now f.frame.seen f.ensures.bound f.ensures.seen in
    lists.means_filtered names ls c.args.span c.in_ok-sources.sources c.in_ok-body.body c.in_ok-filter.filter bs (tree_of c.args.body.now) (tree_of c.args.filter.now) c.in_ok-sources.ensures
    (inner_means names _ (binders (patterns bs) ∷ ls) c.in_ok-body.body.value (tree_of c.args.body.now) (layers-Row _ _ ∙ ap (λ (ps : List PatternTree). binders ps ∷ ls) seen) c.in_ok-body.ensures)
    (inner_means names _ (binders (patterns bs) ∷ ls) c.in_ok-filter.filter.value (tree_of c.args.filter.now) (layers-Row _ _ ∙ ap (λ (ps : List PatternTree). binders ps ∷ ls) seen) c.in_ok-filter.ensures)

pub codes_of-loop-item-preserved : goal.codes_of-loop-item-preserved
codes_of-loop-item-preserved t c =
    let names = known c.args.at.now.places.now in
    let ls = layers_of c.args.at.now.layers.now in
    let added = c.in_ok-add_code.ensures in
    item_step names ls c.args.items.now c.loop-item.item-index c.item-item.result c.loop-item.codes.items c.add_code.new.codes.items added.0 c.loop-item-test.true c.item-item.is c.loop-item.invariant added.2 added.1

pub codes_of_sources-loop-binder-preserved : goal.codes_of_sources-loop-binder-preserved
codes_of_sources-loop-binder-preserved t c =
    let names = known c.args.at.now.places.now in
    let ls = layers_of c.args.at.now.layers.now in
    let added = c.in_ok-add_code.ensures in
    source_step names ls c.args.drawn.now c.loop-binder.binder-index c.binder-item.result c.loop-binder.codes.items c.add_code.new.codes.items added.0 c.loop-binder-test.true c.binder-item.is c.loop-binder.invariant added.2 added.1

pub codes_of_bindings-loop-binding-preserved : goal.codes_of_bindings-loop-binding-preserved
codes_of_bindings-loop-binding-preserved t c =
    let names = known c.args.at.now.places.now in
    let ls = layers_of c.args.at.now.layers.now in
    let i = c.loop-binding.binding-index in
    let inv = c.loop-binding.invariant in
    let f = c.loop-binding.frame in
    let added = c.in_ok-add_code.ensures in
    let seen = before_is f.bound.now c.args.bound.now f.seen i inv.bound inv.seen in
    record {
      codes = binding_step names ls c.args.bound.now i c.binding-item.result c.loop-binding.codes.items c.add_code.new.codes.items added.0 c.loop-binding-test.true c.binding-item.is inv.codes
          (inner_means names _ (bindings (patterns (binders_in (take i c.args.bound.now))) ∷ ls) added.0 (tree_of c.binding-item.result.value) (layers-Let _ _ ∙ ap (λ (ps : List PatternTree). bindings ps ∷ ls) seen) added.2)
          added.1;
      bound = c.in_ok-frame.ensures.bound ∙ inv.bound;
      seen = omega (arith, c.in_ok-frame.ensures.seen, inv.seen);
    }

pub codes_of_bindings-returns-clause-codes : goal.codes_of_bindings-returns-clause-codes
codes_of_bindings-returns-clause-codes t c =
    bindings_done (known c.args.at.now.places.now) (layers_of c.args.at.now.layers.now) c.args.bound.now c.loop-binding.binding-index c.loop-binding.codes.items c.loop-binding-test.false c.loop-binding.invariant.codes

pub codes_of_bindings-returns-clause-bound : goal.codes_of_bindings-returns-clause-bound
codes_of_bindings-returns-clause-bound t c = c.loop-binding.invariant.bound

pub codes_of_bindings-returns-clause-seen : goal.codes_of_bindings-returns-clause-seen
codes_of_bindings-returns-clause-seen t c = omega (arith, c.loop-binding.invariant.seen, c.loop-binding-test.false, c.loop-binding.auto.binding-index-end)

pub codes_of_bindings-with_next-requires : goal.codes_of_bindings-with_next-requires
codes_of_bindings-with_next-requires t c =
    let same : length c.loop-binding.frame.bound.now ≡ length c.args.bound.now = ap length c.loop-binding.invariant.bound in
    omega (arith, same, c.loop-binding.invariant.seen, c.loop-binding-test.true)
