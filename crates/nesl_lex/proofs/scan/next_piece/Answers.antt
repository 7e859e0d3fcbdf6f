use Rattle.std.proofs.Common.{sym, ◌∙◌}
use Rattle.nesl_lex.proofs.Pieces.{blank_gap}
use Rattle.nesl_lex.proofs.scan.next_piece.Goals as goal

pub returns-in-Blank : goal.returns-in-Blank
returns-in-Blank c = blank_gap c.args.bytes.now c.requires (sym c.start_of.ensures ∙ c.in-Blank.is)
