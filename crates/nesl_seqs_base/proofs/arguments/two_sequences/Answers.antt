use Rattle.std.proofs.Common.{◌<◌, ◌^◌, length}
use Rattle.nesl_values.specs.Parts.{as_sequence, as_pair}
use Rattle.nesl_values.specs.View.{tree_of, item_trees}
use Rattle.nesl_seqs_base.specs.Lent.{argument_tree}
use Rattle.nesl_seqs_base.proofs.Zipped.{both_read, zipped_first}
use Rattle.nesl_seqs_base.proofs.arguments.two_sequences.Goals as goal

pub returns-clause-len : goal.returns-clause-len
returns-clause-len g c =
    rw c.zip.ensures (zipped_first (λ items. length (item_trees items) < 2 ^ 63) c.elements.result c.sequence.result c.elements.ensures.len)

pub returns-clause-parts : goal.returns-clause-parts
returns-clause-parts g c =
    both_read item_trees item_trees as_sequence as_sequence c.elements.result c.sequence.result c.zip.result (tree_of c.in_ok-first.first.now) (argument_tree c.in_ok-first.second) (as_pair (argument_tree c.args.argument)) c.zip.ensures c.elements.ensures.items c.sequence.ensures.items c.in_ok-first.ensures
