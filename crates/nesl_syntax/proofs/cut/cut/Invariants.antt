use Rattle.std.proofs.Common.{◌≡◌, take, None}
use Rattle.nesl_lex.specs.Tokens.{placed}
use Rattle.nesl_syntax.specs.Reading.{cut}
use Rattle.nesl_syntax.proofs.cut.cut.Given as goal

abbrev pub invariant-loop-i : goal.invariant-loop-i
invariant-loop-i l = cut l.divider (placed (take l.i l.tokens)) ≡ None
