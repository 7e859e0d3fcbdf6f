use Rattle.nesl_values.specs.Tree.{int, boolean, character}
use Rattle.nesl_eval_columns.proofs.Gathering.{mapped_three}
use Rattle.nesl_eval_columns.proofs.gather.leaves_of_sides.Goals as goal

pub returns-in_ok-items_of_sides-in-Ints-Ints : goal.returns-in_ok-items_of_sides-in-Ints-Ints
returns-in_ok-items_of_sides-in-Ints-Ints g c =
    let s = c.args.sides.now in
    rw (c.in-Ints-Ints.is-0, c.in-Ints-Ints.is-1, ← c.deref.ensures.value, ← c.deref-in-Ints-Ints.ensures.value) (mapped_three int c.deref.result.now c.deref-in-Ints-Ints.result.now s.flags.items s.ranks.items c.in_ok-items_of_sides-in-Ints-Ints.field-0.items c.in_ok-items_of_sides-in-Ints-Ints.ensures)

pub returns-in_ok-items_of_sides-in-Bools-Bools : goal.returns-in_ok-items_of_sides-in-Bools-Bools
returns-in_ok-items_of_sides-in-Bools-Bools g c =
    let s = c.args.sides.now in
    rw (c.in-Bools-Bools.is-0, c.in-Bools-Bools.is-1, ← c.deref-in-Bools-Bools.ensures.value, ← c.deref-in-Bools-Bools-2.ensures.value) (mapped_three boolean c.deref-in-Bools-Bools.result.now c.deref-in-Bools-Bools-2.result.now s.flags.items s.ranks.items c.in_ok-items_of_sides-in-Bools-Bools.field-0.items c.in_ok-items_of_sides-in-Bools-Bools.ensures)

pub returns-in_ok-items_of_sides-in-Chars-Chars : goal.returns-in_ok-items_of_sides-in-Chars-Chars
returns-in_ok-items_of_sides-in-Chars-Chars g c =
    let s = c.args.sides.now in
    rw (c.in-Chars-Chars.is-0, c.in-Chars-Chars.is-1, ← c.deref-in-Chars-Chars.ensures.value, ← c.deref-in-Chars-Chars-2.ensures.value) (mapped_three character c.deref-in-Chars-Chars.result.now c.deref-in-Chars-Chars-2.result.now s.flags.items s.ranks.items c.in_ok-items_of_sides-in-Chars-Chars.field-0.items c.in_ok-items_of_sides-in-Chars-Chars.ensures)
