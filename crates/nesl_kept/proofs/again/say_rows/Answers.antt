use Rattle.std.proofs.Common.{arith}
use Rattle.nesl_kept.specs.Again.{Writes}
use Rattle.nesl_kept.proofs.Said.{back_anew, away_anew, back_again, away_first, away_later, writes_none}
use Rattle.nesl_kept.proofs.again.say_rows.Goals as goal

pub returns-in_default-clause-back : goal.returns-in_default-clause-back
returns-in_default-clause-back g c = back_anew c.args.limits (Writes (g.T.Teller.tells c.args.teller.now) (g.W.Sink.held c.args.writer.now) (g.W.Sink.held c.args.writer.now)) c.args.bytes.now c.begin_anew.result (writes_none (g.T.Teller.tells c.args.teller.now) (g.W.Sink.held c.args.writer.now)) c.begin_anew.ensures.empty

pub returns-in_default-clause-away : goal.returns-in_default-clause-away
returns-in_default-clause-away g c =
    away_anew c.args.limits (Writes (g.T.Teller.tells c.args.teller.now) (g.W.Sink.held c.args.writer.now) (g.W.Sink.held c.args.writer.now)) c.args.bytes.now c.args.rows.now c.begin_anew.result c.requires.rows (omega (arith, c.in_default.len_below)) (writes_none (g.T.Teller.tells c.args.teller.now) (g.W.Sink.held c.args.writer.now)) c.begin_anew.ensures.refused

pub returns-in-Err-clause-away : goal.returns-in-Err-clause-away
returns-in-Err-clause-away g c =
    away_first c.args.limits (Writes (g.T.Teller.tells c.args.teller.now) (g.W.Sink.held c.args.writer.now) (g.W.Sink.held c.args.writer.now)) c.args.bytes.now c.args.rows.now c.head-item.result c.as_slice.result.now c.in-Err.setback c.requires.rows c.in-len1-up.len_at_least c.head-item.is c.as_slice.ensures.value (writes_none (g.T.Teller.tells c.args.teller.now) (g.W.Sink.held c.args.writer.now)) c.in-Err.ensures.refused

pub returns-in-Ok-say_lines-clause-back : goal.returns-in-Ok-say_lines-clause-back
returns-in-Ok-say_lines-clause-back g c =
    back_again c.args.limits (Writes (g.T.Teller.tells c.args.teller.now) (g.W.Sink.held c.args.writer.now) (g.W.Sink.held c.say_lines.new.writer)) c.args.bytes.now c.args.rows.now c.head-item.result c.as_slice.result.now c.in-Ok.session c.say_lines.new.session c.requires.rows c.in-len1-up.len_at_least c.head-item.is c.as_slice.ensures.value c.in-Ok.ensures.begun c.in-Ok-say_lines.ensures.said

pub returns-in-Err-say_lines-clause-away : goal.returns-in-Err-say_lines-clause-away
returns-in-Err-say_lines-clause-away g c =
    away_later c.args.limits (Writes (g.T.Teller.tells c.args.teller.now) (g.W.Sink.held c.args.writer.now) (g.W.Sink.held c.say_lines.new.writer)) c.args.bytes.now c.args.rows.now c.head-item.result c.as_slice.result.now c.in-Ok.session c.in-Err-say_lines.setback c.requires.rows c.in-len1-up.len_at_least c.head-item.is c.as_slice.ensures.value c.in-Ok.ensures.begun c.in-Err-say_lines.ensures.stopped
