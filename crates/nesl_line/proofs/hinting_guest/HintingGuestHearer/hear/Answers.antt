use Rattle.nesl_line.specs.Hinted.{json_front}
use Rattle.nesl_line.proofs.Hints.{hints_more}
use Rattle.nesl_line.proofs.hinting_guest.HintingGuestHearer.hear.Goals as goal

pub returns-clause-heard : goal.returns-clause-heard
returns-clause-heard g c = λ first start lines texts t.
    hints_more json_front _ lines texts t.answers c.args.line.now _ _ (c.hear-told.ensures.heard first.guest start lines t.answers t.heard) t.hints (c.with_hint.ensures c.args.line.now)
