use Rattle.std.proofs.Common.{◌≡◌, take}
use Rattle.std.specs.Prelude.{flat_map}
use Rattle.nesl_kept.specs.Rows.{byte_shown}
use Rattle.nesl_kept.proofs.shown.escaped.Given as goal

abbrev pub invariant-loop-byte : goal.invariant-loop-byte
invariant-loop-byte l = l.shown.items ≡ flat_map byte_shown (take l.byte-index l.line)
