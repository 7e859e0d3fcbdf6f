use Rattle.std.proofs.Common.{length}
use Rattle.nesl_lex.specs.Tokens.{placed}
use Rattle.nesl_syntax.specs.Given.{Listing}
use Rattle.nesl_syntax.proofs.signature.members.Given as goal

abbrev pub invariant-loop-rest : goal.invariant-loop-rest
invariant-loop-rest l = Listing l.members.items (placed l.rest) (placed l.fn.tokens)

abbrev pub decreases-loop-rest : goal.decreases-loop-rest
decreases-loop-rest l = length l.rest
