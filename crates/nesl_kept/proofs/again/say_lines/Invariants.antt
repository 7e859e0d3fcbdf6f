use Rattle.std.proofs.Common.{List, map, take}
use Rattle.nesl_session_meaning.specs.Response.{Reply}
use Rattle.nesl_kept.specs.Again.{SaidAgain, Writes}
use Rattle.nesl_kept.proofs.again.say_lines.Given as goal

abbrev pub invariant-loop-place : goal.invariant-loop-place
invariant-loop-place g l = (replies : List Reply) × SaidAgain (Writes (g.T.Teller.tells l.teller) (g.W.Sink.held l.initial.writer) (g.W.Sink.held l.writer)) l.initial.session (map (λ v. v.items) (take l.place l.lines)) replies l.session
