use Rattle.std.proofs.Common.{◌≡◌, ap, sym, ◌∙◌, refl, map}
use Rattle.nesl_values.specs.Tree.{int, boolean, character, sequence}
use Rattle.nesl_values.specs.View.{tree_of, item_trees}
use Rattle.nesl_reply.specs.Values.{datatypes}
use Rattle.nesl_reply.proofs.Lists.{same_written, element_written}
use Rattle.nesl_reply.proofs.whole.+whole.Goals as goal

pub write_items-returns-in_ok-write_values-in-Values : goal.write_items-returns-in_ok-write_values-in-Values
write_items-returns-in_ok-write_values-in-Values g t c = λ brackets.
    let read : sequence (map tree_of c.in-Values.items.now) ≡ sequence (item_trees c.args.items) = ap (λ xs. sequence (item_trees xs)) (sym c.in-Values.is) in
    same_written c.args.out.now.items c.write_values.new.out.items (datatypes c.args.context.now) brackets c.again-ty.result c.args.ty.now (sequence (map tree_of c.in-Values.items.now)) (sequence (item_trees c.args.items)) c.again-ty.ensures read (c.in_ok-write_values-in-Values.ensures brackets)

pub write_items-returns-in_ok-write_integers-in-Ints : goal.write_items-returns-in_ok-write_integers-in-Ints
write_items-returns-in_ok-write_integers-in-Ints g t c = λ brackets.
    let known = datatypes c.args.context.now in
    let read : sequence (map int c.in-Ints.ints.now) ≡ sequence (item_trees c.args.items) = ap (λ xs. sequence (item_trees xs)) (sym c.in-Ints.is) in
    same_written c.args.out.now.items c.write_integers.new.out.items known brackets c.args.ty.now c.args.ty.now (sequence (map int c.in-Ints.ints.now)) (sequence (item_trees c.args.items)) refl read (c.in_ok-write_integers-in-Ints.ensures known brackets)

pub write_items-returns-in_ok-write_truths-in-Bools : goal.write_items-returns-in_ok-write_truths-in-Bools
write_items-returns-in_ok-write_truths-in-Bools g t c = λ brackets.
    let known = datatypes c.args.context.now in
    let read : sequence (map boolean c.in-Bools.bools.now) ≡ sequence (item_trees c.args.items) = ap (λ xs. sequence (item_trees xs)) (sym c.in-Bools.is) in
    same_written c.args.out.now.items c.write_truths.new.out.items known brackets c.args.ty.now c.args.ty.now (sequence (map boolean c.in-Bools.bools.now)) (sequence (item_trees c.args.items)) refl read (c.in_ok-write_truths-in-Bools.ensures known brackets)

pub write_items-returns-in_ok-write_characters-in-Chars : goal.write_items-returns-in_ok-write_characters-in-Chars
write_items-returns-in_ok-write_characters-in-Chars g t c = λ brackets.
    let known = datatypes c.args.context.now in
    let read : sequence (map character c.in-Chars.chars.now) ≡ sequence (item_trees c.args.items) = ap (λ xs. sequence (item_trees xs)) (sym c.in-Chars.is) in
    same_written c.args.out.now.items c.write_characters.new.out.items known brackets c.args.ty.now c.args.ty.now (sequence (map character c.in-Chars.chars.now)) (sequence (item_trees c.args.items)) refl read (c.in_ok-write_characters-in-Chars.ensures known brackets)

pub write_later_elements-loop-value-preserved : goal.write_later_elements-loop-value-preserved
write_later_elements-loop-value-preserved g t c =
    element_written (datatypes c.args.context.now) c.args.listed.now.ty c.again-ty.result c.args.listed.now.items.now c.loop-value.value-index c.value-item.result
    c.args.out.now.items c.loop-value.out.items c.write_bytes.new.out.items c.write_whole.new.out.items
    c.loop-value-test.true c.value-item.is c.again-ty.ensures c.loop-value.invariant c.in_ok-write_bytes.ensures c.in_ok-write_whole.ensures

pub write_whole-returns-in_ok-write_items-in-Sequence : goal.write_whole-returns-in_ok-write_items-in-Sequence
write_whole-returns-in_ok-write_items-in-Sequence g t c =
    let known = datatypes c.args.context.now in
    let ty = c.args.typed.now.ty in
    let read : sequence (item_trees c.items.result) ≡ tree_of c.args.typed.now.value.now = ap sequence c.items.ensures.items ∙ sym c.in-Sequence.ensures.0 in
    same_written c.args.out.now.items c.write_items.new.out.items known c.args.brackets ty ty (sequence (item_trees c.items.result)) (tree_of c.args.typed.now.value.now) refl read (c.in_ok-write_items-in-Sequence.ensures c.args.brackets)
