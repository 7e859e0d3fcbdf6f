use Rattle.std.proofs.Common.{◌∙◌}
use Rattle.nesl_line.proofs.Talks.{line_ended}
use Rattle.nesl_line.proofs.talk.Talk.end_line.Goals as goal

pub returns-clause-talk : goal.returns-clause-talk
returns-clause-talk g c = λ first start held read p.
    line_ended (g.H.Hearer.heard first start c.args.hearer.now c.args.world.now) (g.H.Hearer.heard first start c.answer-sent.new.hearer c.answer-sent.new.world) read c.bytes.result.now c.args.self.now.line c.clear.new.self held _ _ c.args.self.now.lines c.answer-sent.result p
    (λ raw h. c.bytes.ensures ∙ c.end.ensures raw h) (c.answer-sent.ensures.answered first start) c.clear.ensures
