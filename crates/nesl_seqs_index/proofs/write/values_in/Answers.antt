use Rattle.std.proofs.Common.{◌≢◌, ap, length, refl, rules}
use Rattle.nesl_values.specs.Tree.{int, boolean, character}
use Rattle.nesl_values.specs.View.{item_trees}
use Rattle.nesl_seqs_index.proofs.Writing.{no_pairs}
use Rattle.nesl_seqs_index.proofs.write.values_in.Goals as goal

pub returns-in-Ints : goal.returns-in-Ints
returns-in-Ints g c =
    let some : length (item_trees c.args.items) ≢ 0 = search rules in
    no_pairs int (λ _. refl) _ (item_trees c.args.items) (ap item_trees c.in-Ints.is) some

pub returns-in-Bools : goal.returns-in-Bools
returns-in-Bools g c =
    let some : length (item_trees c.args.items) ≢ 0 = search rules in
    no_pairs boolean (λ _. refl) _ (item_trees c.args.items) (ap item_trees c.in-Bools.is) some

pub returns-in-Chars : goal.returns-in-Chars
returns-in-Chars g c =
    let some : length (item_trees c.args.items) ≢ 0 = search rules in
    no_pairs character (λ _. refl) _ (item_trees c.args.items) (ap item_trees c.in-Chars.is) some
