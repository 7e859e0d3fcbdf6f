use Rattle.std.proofs.Common.{◌≡◌, ◌∙◌, true, List, sym, ap, refl}
use Rattle.std.specs.Prelude.{◌||◌}
use Rattle.nesl_syntax_tree.specs.declared.tree.Exp.{Exp}
use Rattle.nesl_syntax_tree.specs.declared.tree.Binding.{Binding}
use Rattle.nesl_syntax_tree.specs.Views.{tree_of, trees_in, binders_in}
use Rattle.nesl_eval_sound.specs.Refers.{some_binds, refers, any_refers, bindings_refer, drawn_refers}
use Rattle.nesl_eval_sound.proofs.Referring.{or_first, or_second, same_refers, at_sequence, at_let, at_each, at_filtered}
use Rattle.nesl_eval_sound.proofs.refers.+uses.Goals as goal

pub uses-returns-in-Sequence : goal.uses-returns-in-Sequence
uses-returns-in-Sequence t c =
    at_sequence c.args.name.now c.args.hidden c.any_uses.result c.args.exp.now.node c.in-Sequence.items c.in-Sequence.is
    (c.any_uses.ensures ∙ ap (λ (es : List Exp). any_refers c.args.name.now c.args.hidden (trees_in es)) c.as_slice-in-Sequence.ensures.value)

pub uses-returns-then-bindings_use : goal.uses-returns-then-bindings_use
uses-returns-then-bindings_use t c =
    let y = c.args.name.now in
    let h = c.args.hidden in
    let bs = c.in-Let.bindings.items in
    at_let y h c.bindings_use.result c.args.exp.now.node c.in-Let.bindings c.in-Let.body c.in-Let.is
    (or_first c.bindings_use.result (bindings_refer y h (binders_in bs)) (refers y (h || some_binds y (binders_in bs)) (tree_of c.in-Let.body.value))
    (c.bindings_use.ensures ∙ ap (λ (x : List Binding). bindings_refer y h (binders_in x)) c.as_slice-bindings.ensures.value) c.if-bindings_use.true)

pub uses-returns-else-bindings_use : goal.uses-returns-else-bindings_use
uses-returns-else-bindings_use t c =
    let y = c.args.name.now in
    let h = c.args.hidden in
    let bs = c.in-Let.bindings.items in
    let r = c.uses-else-bindings_use.result in
    at_let y h r c.args.exp.now.node c.in-Let.bindings c.in-Let.body c.in-Let.is
    (or_second r (bindings_refer y h (binders_in bs)) (refers y (h || some_binds y (binders_in bs)) (tree_of c.in-Let.body.value))
    (sym (c.bindings_use.ensures ∙ ap (λ (x : List Binding). bindings_refer y h (binders_in x)) c.as_slice-bindings.ensures.value) ∙ c.if-bindings_use.false)
    (same_refers y r c.is_hidden_by-inside.result (h || some_binds y (binders_in bs)) c.deref-else-bindings_use.result.now c.in-Let.body.value
    c.uses-else-bindings_use.ensures (c.is_hidden_by-inside.ensures ∙ ap (λ (x : List Binding). h || some_binds y (binders_in x)) c.as_slice-bindings.ensures.value) c.deref-else-bindings_use.ensures))

pub uses-returns-then-drawn_use : goal.uses-returns-then-drawn_use
uses-returns-then-drawn_use t c =
    let y = c.args.name.now in
    let h = c.args.hidden in
    let bs = c.in-Each.binders.items in
    at_each y h c.drawn_use.result c.args.exp.now.node c.in-Each.body c.in-Each.binders c.in-Each.is
    (or_first c.drawn_use.result (drawn_refers y h (binders_in bs)) (refers y (h || some_binds y (binders_in bs)) (tree_of c.in-Each.body.value))
    (c.drawn_use.ensures ∙ ap (λ (x : List Binding). drawn_refers y h (binders_in x)) c.as_slice-binders.ensures.value) c.if-drawn_use.true)

pub uses-returns-else-drawn_use : goal.uses-returns-else-drawn_use
uses-returns-else-drawn_use t c =
    let y = c.args.name.now in
    let h = c.args.hidden in
    let bs = c.in-Each.binders.items in
    let r = c.uses-else-drawn_use.result in
    at_each y h r c.args.exp.now.node c.in-Each.body c.in-Each.binders c.in-Each.is
    (or_second r (drawn_refers y h (binders_in bs)) (refers y (h || some_binds y (binders_in bs)) (tree_of c.in-Each.body.value))
    (sym (c.drawn_use.ensures ∙ ap (λ (x : List Binding). drawn_refers y h (binders_in x)) c.as_slice-binders.ensures.value) ∙ c.if-drawn_use.false)
    (same_refers y r c.is_hidden_by-inside-in-Each.result (h || some_binds y (binders_in bs)) c.deref-else-drawn_use.result.now c.in-Each.body.value
    c.uses-else-drawn_use.ensures (c.is_hidden_by-inside-in-Each.ensures ∙ ap (λ (x : List Binding). h || some_binds y (binders_in x)) c.as_slice-binders.ensures.value) c.deref-else-drawn_use.ensures))

pub uses-returns-then-drawn_use-2 : goal.uses-returns-then-drawn_use-2
uses-returns-then-drawn_use-2 t c =
    let y = c.args.name.now in
    let h = c.args.hidden in
    let bs = c.in-FilteredEach.binders.items in
    let k = h || some_binds y (binders_in bs) in
    at_filtered y h true c.args.exp.now.node c.in-FilteredEach.body c.in-FilteredEach.binders c.in-FilteredEach.filter c.in-FilteredEach.is
    (or_first true (drawn_refers y h (binders_in bs)) (refers y k (tree_of c.in-FilteredEach.body.value) || refers y k (tree_of c.in-FilteredEach.filter.value))
    (sym c.if-drawn_use-2.true ∙ c.drawn_use-in-FilteredEach.ensures ∙ ap (λ (x : List Binding). drawn_refers y h (binders_in x)) c.as_slice-binders-in-FilteredEach.ensures.value) refl)

pub uses-returns-then-uses-9 : goal.uses-returns-then-uses-9
uses-returns-then-uses-9 t c =
    let y = c.args.name.now in
    let h = c.args.hidden in
    let bs = c.in-FilteredEach.binders.items in
    let k = h || some_binds y (binders_in bs) in
    let r = c.uses-in-FilteredEach.result in
    at_filtered y h r c.args.exp.now.node c.in-FilteredEach.body c.in-FilteredEach.binders c.in-FilteredEach.filter c.in-FilteredEach.is
    (or_second r (drawn_refers y h (binders_in bs)) (refers y k (tree_of c.in-FilteredEach.body.value) || refers y k (tree_of c.in-FilteredEach.filter.value))
    (sym (c.drawn_use-in-FilteredEach.ensures ∙ ap (λ (x : List Binding). drawn_refers y h (binders_in x)) c.as_slice-binders-in-FilteredEach.ensures.value) ∙ c.if-drawn_use-2.false)
    (or_first r (refers y k (tree_of c.in-FilteredEach.body.value)) (refers y k (tree_of c.in-FilteredEach.filter.value))
    (same_refers y r c.is_hidden_by-inside-in-FilteredEach.result k c.deref-in-FilteredEach.result.now c.in-FilteredEach.body.value
    c.uses-in-FilteredEach.ensures (c.is_hidden_by-inside-in-FilteredEach.ensures ∙ ap (λ (x : List Binding). h || some_binds y (binders_in x)) c.as_slice-binders-in-FilteredEach.ensures.value) c.deref-in-FilteredEach.ensures)
    c.if-uses-9.true))

pub uses-returns-else-uses-9 : goal.uses-returns-else-uses-9
uses-returns-else-uses-9 t c =
    let y = c.args.name.now in
    let h = c.args.hidden in
    let bs = c.in-FilteredEach.binders.items in
    let k = h || some_binds y (binders_in bs) in
    let inside : c.is_hidden_by-inside-in-FilteredEach.result ≡ k =
    c.is_hidden_by-inside-in-FilteredEach.ensures ∙ ap (λ (x : List Binding). h || some_binds y (binders_in x)) c.as_slice-binders-in-FilteredEach.ensures.value in
    let r = c.uses-else-uses-9.result in
    at_filtered y h r c.args.exp.now.node c.in-FilteredEach.body c.in-FilteredEach.binders c.in-FilteredEach.filter c.in-FilteredEach.is
    (or_second r (drawn_refers y h (binders_in bs)) (refers y k (tree_of c.in-FilteredEach.body.value) || refers y k (tree_of c.in-FilteredEach.filter.value))
    (sym (c.drawn_use-in-FilteredEach.ensures ∙ ap (λ (x : List Binding). drawn_refers y h (binders_in x)) c.as_slice-binders-in-FilteredEach.ensures.value) ∙ c.if-drawn_use-2.false)
    (or_second r (refers y k (tree_of c.in-FilteredEach.body.value)) (refers y k (tree_of c.in-FilteredEach.filter.value))
    (sym (same_refers y c.uses-in-FilteredEach.result c.is_hidden_by-inside-in-FilteredEach.result k c.deref-in-FilteredEach.result.now c.in-FilteredEach.body.value
    c.uses-in-FilteredEach.ensures inside c.deref-in-FilteredEach.ensures) ∙ c.if-uses-9.false)
    (same_refers y r c.is_hidden_by-inside-in-FilteredEach.result k c.deref-else-uses-9.result.now c.in-FilteredEach.filter.value c.uses-else-uses-9.ensures inside c.deref-else-uses-9.ensures)))
