use Rattle.std.proofs.Common.{sym}
use Rattle.nesl_session_meaning.specs.Step.{transcript_full}
use Rattle.nesl_session.specs.Found.{finding_of}
use Rattle.nesl_session.specs.Inside.{state_of}
use Rattle.nesl_session.proofs.Finds.{finds_reset, finds_long, finds_part, finds_read}
use Rattle.nesl_session.proofs.line.find.Goals as goal

pub returns-then-is_reset-clause-found : goal.returns-then-is_reset-clause-found
returns-then-is_reset-clause-found g c = finds_reset c.args.standing.now.limits (state_of c.args.standing.now) c.args.text.now _ (sym c.if-is_reset.ensures) c.find_reset.ensures.found

pub returns-then-is_full-clause-found : goal.returns-then-is_full-clause-found
returns-then-is_full-clause-found g c = transcript_full (sym c.if-is_reset.ensures) (sym c.if-is_full.ensures.full)

pub returns-then-is_long-clause-found : goal.returns-then-is_long-clause-found
returns-then-is_long-clause-found g c = finds_long c.args.standing.now.limits (state_of c.args.standing.now) c.args.text.now (sym c.if-is_reset.ensures) (sym c.if-is_full.ensures.full) (sym c.if-is_long.ensures)

pub returns-then-is_part-clause-found : goal.returns-then-is_part-clause-found
returns-then-is_part-clause-found g c = finds_part c.args.standing.now.limits (state_of c.args.standing.now) c.args.text.now (sym c.if-is_reset.ensures) (sym c.if-is_full.ensures.full) (sym c.if-is_long.ensures) (sym c.if-is_part.ensures)

pub returns-clause-found : goal.returns-clause-found
returns-clause-found g c = finds_read c.args.standing.now.limits (state_of c.args.standing.now) c.args.text.now (finding_of c.in_ok-finding.finding) (sym c.if-is_reset.ensures) (sym c.if-is_full.ensures.full) (sym c.if-is_long.ensures) (sym c.if-is_part.ensures) c.in_ok-finding.ensures.found
