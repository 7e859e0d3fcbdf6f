use Rattle.std.proofs.Common.{List, [], ◌∷◌, ◌++◌, ℕ, Err, take, sym, ap, ◌∙◌, subst}
use Rattle.std.specs.Io.KnownBytes.{Appends}
use Rattle.nesl_keeper.specs.declared.replay.Unstored.{Unstored}
use Rattle.nesl_keeper.proofs.Rows.{texts}
use Rattle.nesl_kept.specs.Again as again
use Rattle.nesl_kept.specs.Again.{Writes}
use Rattle.nesl_kept.proofs.Said.{said_none, said_next, stops_at, writes_none, writes_more}
use Rattle.nesl_kept.proofs.again.say_lines.Goals as goal

pub loop-place-init : goal.loop-place-init
loop-place-init g c =
    ([], said_none (Writes (g.T.Teller.tells c.args.teller.now) (g.W.Sink.held c.args.writer.now) (g.W.Sink.held c.args.writer.now)) c.args.session.now c.requires.replayed.0 c.requires.replayed.1 (writes_none (g.T.Teller.tells c.args.teller.now) (g.W.Sink.held c.args.writer.now)))

pub loop-place-preserved : goal.loop-place-preserved
loop-place-preserved g c =
    let before = texts (take c.loop-place.place c.args.lines.now) in
    let P : List ℕ → Type 0 = λ b. (text : List ℕ) × g.T.Teller.tells c.args.teller.now b c.in-Ok.answer text × Appends (g.W.Sink.held c.loop-place.writer) (g.W.Sink.held c.write_text.new.writer) text in
    let told = subst P (c.as_slice-in-loop-place.ensures.value ∙ sym c.as_slice.ensures.value) c.in_default.ensures in
    let heard = writes_more (g.T.Teller.tells c.args.teller.now) (g.W.Sink.held c.args.writer.now) (g.W.Sink.held c.loop-place.writer) (g.W.Sink.held c.write_text.new.writer) before c.loop-place.invariant.0 c.as_slice.result.now c.in-Ok.answer c.loop-place.invariant.1.heard told in
    said_next (Writes (g.T.Teller.tells c.args.teller.now) (g.W.Sink.held c.args.writer.now) (g.W.Sink.held c.loop-place.writer)) (Writes (g.T.Teller.tells c.args.teller.now) (g.W.Sink.held c.args.writer.now) (g.W.Sink.held c.write_text.new.writer)) c.args.session.now c.loop-place.session c.store.new.session c.args.lines.now c.loop-place.place c.index-lines-place.result c.as_slice.result.now
    c.loop-place.invariant.0 c.in-Ok.answer c.loop-place-test.true c.index-lines-place.is c.as_slice.ensures.value c.goes_on.ensures c.loop-place.invariant.1 c.in-Ok.ensures.answered c.in-Ok.ensures.stored heard

pub returns-in-Err-Memory-clause-stopped : goal.returns-in-Err-Memory-clause-stopped
returns-in-Err-Memory-clause-stopped g c = again.no_memory (texts c.args.lines.now)

pub returns-in-Err-Refused-clause-stopped : goal.returns-in-Err-Refused-clause-stopped
returns-in-Err-Refused-clause-stopped g c =
    stops_at (Writes (g.T.Teller.tells c.args.teller.now) (g.W.Sink.held c.args.writer.now) (g.W.Sink.held c.loop-place.writer)) c.args.session.now c.loop-place.session c.store.new.session c.args.lines.now c.loop-place.place c.index-lines-place.result c.as_slice.result.now
    c.loop-place.invariant.0 c.loop-place-test.true c.index-lines-place.is c.as_slice.ensures.value c.loop-place.invariant.1 (c.store.ensures.refused (c.in-Err-Refused.is ∙ ap (λ (u : Unstored). Err u) c.in-Err-Refused.field-0-is))

pub returns-in-Err-clause-stopped : goal.returns-in-Err-clause-stopped
returns-in-Err-clause-stopped g c = again.unheard (texts c.args.lines.now) c.in-Err.unheard
