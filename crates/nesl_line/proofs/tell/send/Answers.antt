use Rattle.std.proofs.Common.{◌-◌, ◌<◌, ◌≤◌, List, [], ℕ, length, take, drop, arith, subst, append-nil, ap}
use Rattle.std.proofs.lemmas.List.{length-drop}
use Rattle.std.specs.Io.KnownBytes.{Appends}
use Rattle.nesl_line.proofs.Bytes.{sent_some, sent_more, appends_keep, appends_then, rest_whole}
use Rattle.nesl_line.proofs.Tallies.{failed, took_some, took_none, blamed_after, written_more}
use Rattle.nesl_line.proofs.tell.send.Goals as goal

pub loop-at-preserved : goal.loop-at-preserved
loop-at-preserved g c =
    let bytes = c.args.bytes.now in
    let at = c.loop-at.at in
    let P : List ℕ → Type 0 = λ x. Appends (g.W.Sink.held c.loop-at.writer) (g.W.Sink.held c.write.new.self) (take c.in-Ok.n x) in
    let Q : List ℕ → Type 0 = λ x. c.in-Ok.n ≤ length x in
    let b : c.in-Ok.n ≤ length (drop at bytes) = subst Q (rest_whole at bytes) c.in-Ok.ensures.bound in
    record {
      within = omega (arith, b, length-drop at bytes, c.loop-at.invariant.within);
      sent = sent_more _ _ _ bytes at c.in-Ok.n c.loop-at.invariant.sent (subst P (rest_whole at bytes) c.in-Ok.ensures.bytes);
      tally =
          written_more at c.in-Ok.n (g.W.Sink.tally c.args.writer.now) (g.W.Sink.tally c.loop-at.writer) (g.W.Sink.tally c.write.new.self) c.loop-at.invariant.tally
          (took_some (length (take (length bytes - at) (drop at bytes))) c.in-Ok.n _ _ c.in-Ok.n-test.1 c.in-Ok.ensures.tally);
    }

pub returns-in-Err-clause-sent : goal.returns-in-Err-clause-sent
returns-in-Err-clause-sent g c = sent_some _ _ c.args.bytes.now c.loop-at.at (appends_keep _ _ _ _ c.loop-at.invariant.sent c.in-Err.ensures.bytes)

pub returns-in-Err-clause-tally : goal.returns-in-Err-clause-tally
returns-in-Err-clause-tally g c = blamed_after c.loop-at.at (g.W.Sink.tally c.args.writer.now) (g.W.Sink.tally c.loop-at.writer) (g.W.Sink.tally c.write.new.self) c.loop-at.invariant.tally (failed (g.W.Sink.tally c.loop-at.writer) (g.W.Sink.tally c.write.new.self) c.in-Err.ensures.tally)

pub returns-in-Ok-eq0-clause-sent : goal.returns-in-Ok-eq0-clause-sent
returns-in-Ok-eq0-clause-sent g c =
    let P : List ℕ → Type 0 = λ x. Appends (g.W.Sink.held c.args.writer.now) (g.W.Sink.held c.write.new.self) x in
    let Q : ℕ → Type 0 = λ k. Appends (g.W.Sink.held c.loop-at.writer) (g.W.Sink.held c.write.new.self) (take k (take (length c.args.bytes.now - c.loop-at.at) (drop c.loop-at.at c.args.bytes.now))) in
    sent_some _ _ c.args.bytes.now c.loop-at.at (subst P (append-nil (take c.loop-at.at c.args.bytes.now)) (appends_then _ _ _ (take c.loop-at.at c.args.bytes.now) [] c.loop-at.invariant.sent (subst Q c.in-Ok-eq0.field-0-test c.in-Ok-eq0.ensures.bytes)))

pub returns-in-Ok-eq0-clause-tally : goal.returns-in-Ok-eq0-clause-tally
returns-in-Ok-eq0-clause-tally g c =
    let bytes = c.args.bytes.now in
    let at = c.loop-at.at in
    let some : 0 < length (take (length bytes - at) (drop at bytes)) = omega (arith, ap length (rest_whole at bytes), length-drop at bytes, c.loop-at-test.true) in
    blamed_after at (g.W.Sink.tally c.args.writer.now) (g.W.Sink.tally c.loop-at.writer) (g.W.Sink.tally c.write.new.self) c.loop-at.invariant.tally (took_none (length (take (length bytes - at) (drop at bytes))) c.in-Ok-eq0.field-0 (g.W.Sink.tally c.loop-at.writer) (g.W.Sink.tally c.write.new.self) c.in-Ok-eq0.field-0-test some c.in-Ok-eq0.ensures.tally)
