use Rattle.std.proofs.Common.{ℕ, List, subst}
use Rattle.nesl_kept.specs.Again.{ComesBack, StaysAway, Writes}
use Rattle.nesl_kept.specs.declared.again.Setback.{Setback}
use Rattle.nesl_kept.specs.declared.again.Setback.TheVariants.{Misfit}
use Rattle.nesl_kept.proofs.Said.{same_err}
use Rattle.nesl_kept.proofs.collection.Collection.say.Goals as goal

pub returns-in-Ok-say_again-clause-back : goal.returns-in-Ok-say_again-clause-back
returns-in-Ok-say_again-clause-back g c =
    let P : List ℕ → Type 0 = λ file. ComesBack c.args.self.now.limits (Writes (g.T.Teller.tells c.args.teller.now) (g.W.Sink.held c.args.writer.now) (g.W.Sink.held c.say_again.new.writer)) file c.in-Ok-say_again.back.session in
    (c.in-Ok.bytes.items, c.in-Ok.ensures, subst P c.as_slice.ensures.value c.in-Ok-say_again.ensures.back)

pub returns-clause-away : goal.returns-clause-away
returns-clause-away g c = λ mismatch is.
    let P : List ℕ → Type 0 = λ file. StaysAway c.args.self.now.limits (Writes (g.T.Teller.tells c.args.teller.now) (g.W.Sink.held c.args.writer.now) (g.W.Sink.held c.say_again.new.writer)) file (Misfit mismatch) in
    let Q : Setback → Type 0 = λ e. StaysAway c.args.self.now.limits (Writes (g.T.Teller.tells c.args.teller.now) (g.W.Sink.held c.args.writer.now) (g.W.Sink.held c.say_again.new.writer)) c.as_slice.result.now e in
    (c.in-Ok.bytes.items, c.in-Ok.ensures, subst P c.as_slice.ensures.value (subst Q (c.stop_away.ensures mismatch (same_err _ _ is)) c.in-Err-say_again.ensures.away))

pub returns-in-Err-clause-away : goal.returns-in-Err-clause-away
returns-in-Err-clause-away g c = λ mismatch is. absurd (c.stop_unread.ensures mismatch (same_err _ _ is))
