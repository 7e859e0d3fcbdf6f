use Rattle.std.proofs.Common.{◌<◌, ◌∙◌, refl, sym, ap, arith, length}
use Rattle.nesl_line.proofs.Talks.{finished_before, last_answered}
use Rattle.nesl_line.proofs.Turns.{emptied, filled}
use Rattle.nesl_line.proofs.talk.Talk.end_input.Goals as goal

pub returns-clause-talk : goal.returns-clause-talk
returns-clause-talk g c = λ first start held read p.
    let some : 0 < length c.bytes.result.now = filled c.bytes.result.now (length c.bytes.result.now) c.is_empty.result refl c.is_empty.ensures c.if-is_empty.false in
    last_answered (g.H.Hearer.heard first start c.args.hearer.now c.args.world.now) (g.H.Hearer.heard first start c.answer.new.hearer c.answer.new.world) read c.bytes-2.result.now c.args.self.now.line held _ _ c.args.self.now.lines p c.bytes-2.ensures
    (omega (arith, some, ap length c.bytes.ensures, ap length c.bytes-2.ensures)) c.answer.result (c.answer.ensures.answered first start)

pub returns-then-is_empty-clause-talk : goal.returns-then-is_empty-clause-talk
returns-then-is_empty-clause-talk g c = λ first start held read p.
    finished_before (g.H.Hearer.heard first start c.args.hearer.now c.args.world.now) read c.args.self.now.line held _ c.args.self.now.lines p
    (sym c.bytes.ensures ∙ emptied c.bytes.result.now (length c.bytes.result.now) c.is_empty.result refl c.is_empty.ensures c.if-is_empty.true)
