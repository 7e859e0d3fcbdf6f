use Rattle.nesl_values.specs.Tree.{int, boolean, character}
use Rattle.nesl_values.specs.View.{tree_of, item_trees}
use Rattle.nesl_seqs_index.proofs.Planned.{permuted_made}
use Rattle.nesl_seqs_index.proofs.permute.copy_of_permuted.Goals as goal

pub returns-in-Ints : goal.returns-in-Ints
returns-in-Ints g c =
    rw c.in-Ints.is (permuted_made int c.in-Ints.indices.now (item_trees c.args.items) c.permuted_copy.result (rw c.in-Ints.is at c.requires.given) c.permuted_copy.ensures)

pub returns-in-Bools : goal.returns-in-Bools
returns-in-Bools g c =
    rw c.in-Bools.is (permuted_made boolean c.in-Bools.indices.now (item_trees c.args.items) c.permuted_copy-in-Bools.result (rw c.in-Bools.is at c.requires.given) c.permuted_copy-in-Bools.ensures)

pub returns-in-Chars : goal.returns-in-Chars
returns-in-Chars g c =
    rw c.in-Chars.is (permuted_made character c.in-Chars.indices.now (item_trees c.args.items) c.permuted_copy-in-Chars.result (rw c.in-Chars.is at c.requires.given) c.permuted_copy-in-Chars.ensures)

pub returns-in-Values : goal.returns-in-Values
returns-in-Values g c =
    rw c.in-Values.is (permuted_made tree_of c.in-Values.indices.now (item_trees c.args.items) c.permuted_copy-in-Values.result (rw c.in-Values.is at c.requires.given) c.permuted_copy-in-Values.ensures)
