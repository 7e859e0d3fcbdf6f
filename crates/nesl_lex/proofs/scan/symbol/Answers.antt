use Rattle.std.proofs.Common.{sym}
use Rattle.nesl_lex.proofs.Pieces.{symbol_text, symbol_stuck}
use Rattle.nesl_lex.proofs.scan.symbol.Goals as goal

pub returns-in-Some : goal.returns-in-Some
returns-in-Some c = rw c.sign_len.ensures (symbol_text c.args.bytes.now c.requires.some c.in-Some.sign (sym c.in-Some.ensures))

pub returns-in-None : goal.returns-in-None
returns-in-None c = symbol_stuck c.args.bytes.now c.requires.some c.requires.other (sym c.in-None.ensures)
