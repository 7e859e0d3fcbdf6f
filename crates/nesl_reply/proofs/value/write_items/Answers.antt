use Rattle.std.proofs.Common.{◌≡◌, map, ap, sym}
use Rattle.nesl_values.specs.Tree.{int, boolean, character, sequence}
use Rattle.nesl_values.specs.View.{item_trees}
use Rattle.nesl_reply.specs.Tasks.{tasks_text}
use Rattle.nesl_reply.proofs.Lists.{front_written}
use Rattle.nesl_reply.proofs.value.write_items.Goals as goal

pub returns-in_ok-write_integers-in-Ints-clause-text : goal.returns-in_ok-write_integers-in-Ints-clause-text
returns-in_ok-write_integers-in-Ints-clause-text c = λ known brackets.
    let read : sequence (map int c.in-Ints.ints.now) ≡ sequence (item_trees c.args.items) = ap (λ xs. sequence (item_trees xs)) (sym c.in-Ints.is) in
    front_written c.args.out.now.items c.write_integers.new.out.items known brackets c.args.ty.now (sequence (map int c.in-Ints.ints.now)) (sequence (item_trees c.args.items)) (tasks_text known c.args.tasks.now.items) read (c.in_ok-write_integers-in-Ints.ensures known brackets)

pub returns-in_ok-write_truths-in-Bools-clause-text : goal.returns-in_ok-write_truths-in-Bools-clause-text
returns-in_ok-write_truths-in-Bools-clause-text c = λ known brackets.
    let read : sequence (map boolean c.in-Bools.bools.now) ≡ sequence (item_trees c.args.items) = ap (λ xs. sequence (item_trees xs)) (sym c.in-Bools.is) in
    front_written c.args.out.now.items c.write_truths.new.out.items known brackets c.args.ty.now (sequence (map boolean c.in-Bools.bools.now)) (sequence (item_trees c.args.items)) (tasks_text known c.args.tasks.now.items) read (c.in_ok-write_truths-in-Bools.ensures known brackets)

pub returns-in_ok-write_characters-in-Chars-clause-text : goal.returns-in_ok-write_characters-in-Chars-clause-text
returns-in_ok-write_characters-in-Chars-clause-text c = λ known brackets.
    let read : sequence (map character c.in-Chars.chars.now) ≡ sequence (item_trees c.args.items) = ap (λ xs. sequence (item_trees xs)) (sym c.in-Chars.is) in
    front_written c.args.out.now.items c.write_characters.new.out.items known brackets c.args.ty.now (sequence (map character c.in-Chars.chars.now)) (sequence (item_trees c.args.items)) (tasks_text known c.args.tasks.now.items) read (c.in_ok-write_characters-in-Chars.ensures known brackets)
