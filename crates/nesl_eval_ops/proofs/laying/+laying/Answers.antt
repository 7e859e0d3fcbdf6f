use Rattle.std.proofs.Common.{◌≡◌, ◌∙◌, ◌-◌, ap, sym, arith, ◌∷◌, length, take, drop, Some, None, map}
use Rattle.std.proofs.lemmas.Option.{slice_get-get_or}
use Rattle.std.specs.Prelude.{option_map}
use Rattle.nesl_eval_code.proofs.Resolved.{if_ok}
use Rattle.nesl_eval_code.specs.Block.{listing}
use Rattle.nesl_eval_code.specs.Flat.{flat, leaf_of, leaves_of, pushing, forgetting, room}
use Rattle.nesl_eval_ops.specs.View.{block_in, leaf_is, sizes_of, many_is}
use Rattle.nesl_eval_ops.specs.Lists.{parts_on}
use Rattle.nesl_eval_ops.proofs.Lists.{making_all, three_pushed, tail_is, pushed_turn, bound_turn}
use Rattle.nesl_eval_ops.proofs.Lists.{sequence_laid, let_laid, let_above, each_laid, filtered_laid}
use Rattle.nesl_eval_ops.proofs.laying.+laying.Goals as goal

pub laid_sequence-returns-in-Sequence : goal.laid_sequence-returns-in-Sequence
laid_sequence-returns-in-Sequence t c =
    let p = c.args.at.now in
    if_ok c.enter_sequence.result c.enter_sequence.ensures (λ o e. e
    ∙ sequence_laid p.height (sizes_of p.sizes.now)
    c.in-Sequence.span c.in-Sequence.parts c.deref.result.now c.args.code.now
    (option_map block_in c.args.next)
    c.deref.ensures.value c.in-Sequence.is)

pub laid_let-returns-in-Let : goal.laid_let-returns-in-Let
laid_let-returns-in-Let t c =
    let p = c.args.at.now in
    if_ok c.enter_let.result c.enter_let.ensures (λ o e. e
    ∙ let_laid p.height (sizes_of p.sizes.now)
    c.in-Let.span c.in-Let.bindings c.in-Let.body c.deref.result.now c.deref-in-Let.result.now
    c.args.code.now (option_map block_in c.args.next)
    c.deref.ensures.value c.deref-in-Let.ensures c.in-Let.is)

pub enter_let-returns : goal.enter_let-returns
enter_let-returns t c =
    let p = c.args.at.now in
    let i = c.in_ok-inner.inner in
    if_ok c.enter.result c.enter.ensures (λ o e. e
    ∙ let_above p.height i.height (sizes_of p.sizes.now) (sizes_of i.sizes.now)
    c.args.span c.args.bindings.now c.args.body.now
    (block_in c.in_ok-made.made) (option_map block_in c.args.next)
    c.in_ok-inner.ensures.0 (ap (λ z. sizes_of z.now) c.in_ok-inner.ensures.1) c.in_ok-made.ensures)

pub laid_each-returns-in-Each : goal.laid_each-returns-in-Each
laid_each-returns-in-Each t c =
    let p = c.args.at.now in
    if_ok c.of_each.result c.of_each.ensures (λ o e. e
    ∙ each_laid p.height (sizes_of p.sizes.now)
    c.in-Each.span c.in-Each.sources c.in-Each.body c.deref.result.now c.deref-in-Each.result.now
    c.args.code.now (option_map block_in c.args.next)
    c.deref.ensures.value c.deref-in-Each.ensures c.in-Each.is)

pub laid_filtered-returns-in-FilteredEach : goal.laid_filtered-returns-in-FilteredEach
laid_filtered-returns-in-FilteredEach t c =
    let p = c.args.at.now in
    if_ok c.of_filtered.result c.of_filtered.ensures (λ o e. e
    ∙ filtered_laid p.height (sizes_of p.sizes.now)
    c.in-FilteredEach.span c.in-FilteredEach.sources c.in-FilteredEach.body c.in-FilteredEach.filter
    c.deref.result.now c.deref-in-FilteredEach.result.now c.deref-in-FilteredEach-2.result.now
    c.args.code.now (option_map block_in c.args.next)
    c.deref.ensures.value c.deref-in-FilteredEach.ensures c.deref-in-FilteredEach-2.ensures
    c.in-FilteredEach.is)

pub of_sequence-returns : goal.of_sequence-returns
of_sequence-returns t c =
    let p = c.args.at.now in
    let ks = sizes_of p.sizes.now in
    let cs = c.args.codes.now in
    let k = c.with_parts-count.result in
    let ls = c.in_ok-leaves.leaves.items in
    let leaves : leaves_of (parts_on p.height ks (drop k cs)) ≡ Some (map leaf_is ls) =
    ap (λ l. leaves_of (parts_on p.height ks l)) (sym (tail_is k cs)) ∙ c.in_ok-leaves.ensures in
    if_ok c.pushed.result c.pushed.ensures (λ o e. e
    ∙ ap (pushing (parts_on p.height ks (take k cs))) c.in_ok-made.ensures
    ∙ making_all p.height ks c.args.span listing cs (block_in c.args.next) k (map leaf_is ls)
    c.with_parts-count.ensures.within leaves c.with_parts-count.ensures.ends)

pub of_three-returns-in_default : goal.of_three-returns-in_default
of_three-returns-in_default t c =
    let p = c.args.at.now in
    let n = c.args.node in
    let ks = sizes_of p.sizes.now in
    let none : leaf_of ks c.args.third.now ≡ None = sym c.in_ok-last.ensures
    ∙ ap (option_map leaf_is) c.in_default.is in
    if_ok c.laid-in_default-2.result c.laid-in_default-2.ensures (λ o e. e
    ∙ three_pushed n.height p.height ks n.span (many_is n.many) c.args.first.now c.args.second.now c.args.third.now
    (block_in c.args.next)
    (block_in c.in_ok-tops.tops) (block_in c.in_ok-after.after) (block_in c.in_ok-middle.middle)
    c.new.result.items none c.new.ensures.items
    c.in_ok-tops.ensures c.in_ok-after.ensures c.in_ok-middle.ensures)

pub pushed-loop-turn-preserved : goal.pushed-loop-turn-preserved
pushed-loop-turn-preserved t c =
    let p = c.args.at.now in
    let cs = c.args.codes.now in
    let i = length cs - 1 - c.loop-turn.turn in
    c.in_ok-made.ensures
    ∙ pushed_turn p.height (sizes_of p.sizes.now) cs c.loop-turn.turn c.index-codes-codes.result (block_in c.args.next)
    (block_in c.loop-turn.made) c.loop-turn-test.true
    (slice_get-get_or cs i c.index-codes-codes.result (omega (arith, c.loop-turn-test.true))
    ∙ ap Some (sym c.index-codes-codes.is)) c.loop-turn.invariant

pub of_let-loop-turn-preserved : goal.of_let-loop-turn-preserved
of_let-loop-turn-preserved t c =
    let p = c.args.at.now in
    let ks = sizes_of p.sizes.now in
    let cs = c.args.bindings.now in
    let i = length cs - 1 - c.loop-turn.turn in
    c.in_ok-made-2.ensures
    ∙ bound_turn p.height ks cs c.loop-turn.turn c.index-bindings-index.result
    (λ k. flat p.height (k ∷ ks) c.args.body.now (forgetting (room ks) (option_map block_in c.args.next)))
    (block_in c.loop-turn.made) (block_in c.in_ok-later.later) c.loop-turn-test.true
    (slice_get-get_or cs i c.index-bindings-index.result (omega (arith, c.loop-turn-test.true))
    ∙ ap Some (sym c.index-bindings-index.is)) c.loop-turn.invariant c.in_ok-later.ensures
