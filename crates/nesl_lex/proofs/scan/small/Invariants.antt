use Rattle.std.proofs.Common.{◌≡◌, map, take}
use Rattle.nesl_lex.specs.Lexemes.{small_letter}
use Rattle.nesl_lex.proofs.scan.small.Given as goal

-- the letters of the bytes so far
abbrev pub invariant-loop-b : goal.invariant-loop-b
invariant-loop-b l = l.letters.items ≡ map small_letter (take l.b-index l.text)
