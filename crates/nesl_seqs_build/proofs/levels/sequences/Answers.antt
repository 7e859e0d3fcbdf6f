use Rattle.std.proofs.Common.{Some, option_and_then, ap, sym, ◌∙◌}
use Rattle.nesl_values.specs.Parts.{as_sequence}
use Rattle.nesl_values.specs.View.{tree_of}
use Rattle.nesl_seqs_base.specs.Reductions.{all_of}
use Rattle.nesl_seqs_base.proofs.Shapes.{all_read, some_unread}
use Rattle.nesl_seqs_build.proofs.levels.sequences.Goals as goal

pub returns-then-are_sequences-clause-some : goal.returns-then-are_sequences-clause-some
returns-then-are_sequences-clause-some g c =
    (sym c.in_ok-sequence.ensures.items ∙ ap Some (sym c.in_ok-values.ensures.some), all_read as_sequence tree_of c.in_ok-values.values.now (sym c.are_sequences.ensures ∙ c.if-are_sequences.true))

pub returns-else-are_sequences-clause-none : goal.returns-else-are_sequences-clause-none
returns-else-are_sequences-clause-none g c _ =
    ap (option_and_then (all_of as_sequence)) (sym c.in_ok-sequence.ensures.items ∙ ap Some (sym c.in_ok-values.ensures.some)) ∙ some_unread as_sequence tree_of c.in_ok-values.values.now (sym c.are_sequences.ensures ∙ c.if-are_sequences.false)
