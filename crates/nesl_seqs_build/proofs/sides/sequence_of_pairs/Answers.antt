use Rattle.std.proofs.Common.{option_and_then, ap, sym, ◌∙◌}
use Rattle.nesl_values.specs.Parts.{as_pair}
use Rattle.nesl_values.specs.View.{tree_of}
use Rattle.nesl_seqs_base.specs.Reductions.{all_of}
use Rattle.nesl_seqs_base.proofs.Shapes.{all_read, some_unread}
use Rattle.nesl_seqs_build.proofs.sides.sequence_of_pairs.Goals as goal

pub returns-then-are_pairs-clause-some : goal.returns-then-are_pairs-clause-some
returns-then-are_pairs-clause-some g c =
    (c.in_ok-values.ensures.some, all_read as_pair tree_of c.in_ok-values.values.now (sym c.are_pairs.ensures ∙ c.if-are_pairs.true))

pub returns-else-are_pairs-clause-none : goal.returns-else-are_pairs-clause-none
returns-else-are_pairs-clause-none g c _ =
    ap (option_and_then (all_of as_pair)) c.in_ok-values.ensures.some ∙ some_unread as_pair tree_of c.in_ok-values.values.now (sym c.are_pairs.ensures ∙ c.if-are_pairs.false)
