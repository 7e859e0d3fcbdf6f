use Rattle.std.proofs.Common.{◌≡◌, drop}
use Rattle.nesl_forms.specs.Lines.{ends_soon}
use Rattle.nesl_forms.proofs.line.ends_soon.Given as goal

abbrev pub invariant-loop-byte : goal.invariant-loop-byte
invariant-loop-byte l = ends_soon (drop l.byte-index l.rest) ≡ ends_soon l.fn.rest
