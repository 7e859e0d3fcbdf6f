use Rattle.nesl_line.proofs.Hints.{hint_line_of}
use Rattle.nesl_line.proofs.hinted.line_of.Goals as goal

pub returns-in-Ok : goal.returns-in-Ok
returns-in-Ok c = hint_line_of _ _ _ c.args.hint.now c.in_ok-more.ensures.items c.in-Ok.ensures
