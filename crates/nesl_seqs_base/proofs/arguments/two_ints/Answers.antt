use Rattle.nesl_values.specs.Parts.{as_int, as_pair}
use Rattle.nesl_values.specs.View.{tree_of}
use Rattle.nesl_seqs_base.specs.Lent.{argument_tree}
use Rattle.nesl_seqs_base.proofs.Zipped.{neither_read}
use Rattle.nesl_seqs_base.proofs.arguments.two_ints.Goals as goal

pub returns : goal.returns
returns g c =
    neither_read as_int as_int c.as_int.result c.as_int-2.result c.zip.result (tree_of c.in_ok-first.first.now) (argument_tree c.in_ok-first.second) (as_pair (argument_tree c.args.argument)) c.zip.ensures c.as_int.ensures c.as_int-2.ensures c.in_ok-first.ensures
