use Rattle.std.proofs.Common.{ap, refl}
use Rattle.nesl_values.specs.Tree.{int, boolean, character}
use Rattle.nesl_values.specs.View.{item_trees}
use Rattle.nesl_seqs_index.proofs.WrittenLeaves.{all_leaves}
use Rattle.nesl_seqs_index.proofs.write.is_packed.Goals as goal

pub returns-in-Ints : goal.returns-in-Ints
returns-in-Ints g c h = all_leaves int (λ _. refl) _ (item_trees c.args.items) (ap item_trees c.in-Ints.is)

pub returns-in-Bools : goal.returns-in-Bools
returns-in-Bools g c h = all_leaves boolean (λ _. refl) _ (item_trees c.args.items) (ap item_trees c.in-Bools.is)

pub returns-in-Chars : goal.returns-in-Chars
returns-in-Chars g c h = all_leaves character (λ _. refl) _ (item_trees c.args.items) (ap item_trees c.in-Chars.is)
