use Rattle.std.proofs.Common.{◌≡◌, reverse, vec_len}
use Rattle.nesl_forms.specs.Lines.{trimmed}
use Rattle.nesl_forms.proofs.line.trim.Given as goal

abbrev pub invariant-loop-byte : goal.invariant-loop-byte
invariant-loop-byte l = trimmed (reverse l.line.items) ≡ trimmed (reverse l.initial.line.items)

abbrev pub decreases-loop-byte : goal.decreases-loop-byte
decreases-loop-byte l = vec_len l.line
