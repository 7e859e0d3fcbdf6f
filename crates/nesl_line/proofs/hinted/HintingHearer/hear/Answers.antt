use Rattle.nesl_line.specs.Hinted.{plain_front}
use Rattle.nesl_line.proofs.Hints.{hints_more}
use Rattle.nesl_line.proofs.hinted.HintingHearer.hear.Goals as goal

pub returns-clause-heard : goal.returns-clause-heard
returns-clause-heard g c = λ first start lines texts t.
    hints_more plain_front _ lines texts t.answers c.args.line.now _ _ (c.hear-told.ensures.heard c.args.self.now.chooser start lines t.answers t.heard) t.hints (c.with_hint.ensures c.args.line.now)
