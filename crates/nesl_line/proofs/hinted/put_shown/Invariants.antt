use Rattle.std.proofs.Common.{◌≡◌, ◌++◌, map, take}
use Rattle.nesl_line.specs.Hinted.{shown}
use Rattle.nesl_line.proofs.hinted.put_shown.Given as goal

abbrev pub invariant-loop-byte : goal.invariant-loop-byte
invariant-loop-byte l = l.text.items ≡ l.initial.text.items ++ map shown (take l.byte-index l.bytes)
