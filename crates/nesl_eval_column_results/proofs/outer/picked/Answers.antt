use Rattle.std.proofs.Common.{map, refl}
use Rattle.nesl_values.specs.Tree.{int, boolean, character}
use Rattle.nesl_values.specs.View.{tree_of}
use Rattle.nesl_eval_column_results.proofs.Elements.{is_sequence, items_picked}
use Rattle.nesl_eval_column_results.proofs.outer.picked.Goals as goal

pub returns-in_ok-items_at-in-Ints-items : goal.returns-in_ok-items_at-in-Ints-items
returns-in_ok-items_at-in-Ints-items g c =
    let v = tree_of c.args.sequence.now in
    let its = is_sequence v (map int c.in-Ints-items.items.now) c.in_ok-_len._len c.in_ok-_len.ensures c.in-Ints-items.ensures.items in
    rw (c.in-Ints.is, ← c.deref.ensures.value) (items_picked int c.in-Ints-items.items.now v its (λ y. refl) c.deref.result.now c.in_ok-items_at-in-Ints-items.field-0.items c.in_ok-items_at-in-Ints-items.ensures)

pub returns-in_ok-items_at-in-Bools : goal.returns-in_ok-items_at-in-Bools
returns-in_ok-items_at-in-Bools g c =
    let v = tree_of c.args.sequence.now in
    let its = is_sequence v (map boolean c.in-Bools.items.now) c.in_ok-_len._len c.in_ok-_len.ensures c.in-Bools.ensures.items in
    rw (c.in-Ints.is, ← c.deref-in-Bools.ensures.value) (items_picked boolean c.in-Bools.items.now v its (λ y. refl) c.deref-in-Bools.result.now c.in_ok-items_at-in-Bools.field-0.items c.in_ok-items_at-in-Bools.ensures)

pub returns-in_ok-items_at-in-Chars : goal.returns-in_ok-items_at-in-Chars
returns-in_ok-items_at-in-Chars g c =
    let v = tree_of c.args.sequence.now in
    let its = is_sequence v (map character c.in-Chars.items.now) c.in_ok-_len._len c.in_ok-_len.ensures c.in-Chars.ensures.items in
    rw (c.in-Ints.is, ← c.deref-in-Chars.ensures.value) (items_picked character c.in-Chars.items.now v its (λ y. refl) c.deref-in-Chars.result.now c.in_ok-items_at-in-Chars.field-0.items c.in_ok-items_at-in-Chars.ensures)
