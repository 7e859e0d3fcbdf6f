use Rattle.std.proofs.Common.{take}
use Rattle.std.specs.Prelude.{map}
use Rattle.nesl_grade.specs.Graded.{HasSaid}
use Rattle.nesl_grade.proofs.reply.say_all.Given as goal

abbrev pub invariant-loop-line : goal.invariant-loop-line
invariant-loop-line l = HasSaid l.fn.limits (map (λ line. line.items) (take l.line-index l.lines)) l.session
