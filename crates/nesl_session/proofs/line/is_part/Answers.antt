use Rattle.std.proofs.Common.{sym}
use Rattle.nesl_session.proofs.Parts.{by_last}
use Rattle.nesl_session.proofs.line.is_part.Goals as goal

pub returns-in-Some : goal.returns-in-Some
returns-in-Some c = by_last c.args.text.now c.in-Some.byte.now (sym c.in-Some.ensures.value)
