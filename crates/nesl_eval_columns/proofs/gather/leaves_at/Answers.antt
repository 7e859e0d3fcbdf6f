use Rattle.nesl_values.specs.Tree.{int, boolean, character}
use Rattle.nesl_eval_columns.proofs.Gathering.{mapped_two}
use Rattle.nesl_eval_columns.proofs.gather.leaves_at.Goals as goal

pub returns-in_ok-gathered-in-Ints : goal.returns-in_ok-gathered-in-Ints
returns-in_ok-gathered-in-Ints g c = rw (c.in-Ints.is, ← c.deref.ensures.value) (mapped_two int c.deref.result.now c.args.places.now c.in_ok-gathered-in-Ints.field-0.items c.in_ok-gathered-in-Ints.ensures)

pub returns-in_ok-gathered-in-Bools : goal.returns-in_ok-gathered-in-Bools
returns-in_ok-gathered-in-Bools g c = rw (c.in-Bools.is, ← c.deref-in-Bools.ensures.value) (mapped_two boolean c.deref-in-Bools.result.now c.args.places.now c.in_ok-gathered-in-Bools.field-0.items c.in_ok-gathered-in-Bools.ensures)

pub returns-in_ok-gathered-in-Chars : goal.returns-in_ok-gathered-in-Chars
returns-in_ok-gathered-in-Chars g c = rw (c.in-Chars.is, ← c.deref-in-Chars.ensures.value) (mapped_two character c.deref-in-Chars.result.now c.args.places.now c.in_ok-gathered-in-Chars.field-0.items c.in_ok-gathered-in-Chars.ensures)
