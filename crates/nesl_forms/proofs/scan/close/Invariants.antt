use Rattle.std.proofs.Common.{◌≡◌, reverse, vec_len}
use Rattle.nesl_forms.specs.Steps.{closed}
use Rattle.nesl_forms.proofs.scan.close.Given as goal

abbrev pub invariant-loop-mark : goal.invariant-loop-mark
invariant-loop-mark l = closed (reverse l.opened.items) ≡ closed (reverse l.initial.opened.items)

abbrev pub decreases-loop-mark : goal.decreases-loop-mark
decreases-loop-mark l = vec_len l.opened
