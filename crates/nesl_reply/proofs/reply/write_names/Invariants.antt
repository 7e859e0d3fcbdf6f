use Rattle.std.proofs.Common.{◌≡◌, ◌++◌, take, map}
use Rattle.nesl_reply.specs.Replies.{names_text}
use Rattle.nesl_reply.proofs.reply.write_names.Given as goal

abbrev pub invariant-loop-place : goal.invariant-loop-place
invariant-loop-place g l = l.out.items ≡ l.initial.out.items ++ names_text (take l.place (map (λ b. b.0) l.context))
