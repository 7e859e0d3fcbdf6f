use Rattle.std.proofs.Common.{◌≡◌, ◌++◌, length}
use Rattle.nesl_forms.specs.Lines.{flat}
use Rattle.nesl_forms.proofs.line.put_flat.Given as goal

abbrev pub invariant-loop-byte : goal.invariant-loop-byte
invariant-loop-byte l = l.line.items ++ flat l.rest ≡ l.initial.line.items ++ flat l.fn.form

abbrev pub decreases-loop-byte : goal.decreases-loop-byte
decreases-loop-byte l = length l.rest
