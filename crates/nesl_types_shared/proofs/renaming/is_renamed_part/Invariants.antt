use Rattle.nesl_types_shared.specs.Renames.{replacement}
use Rattle.nesl_types_shared.proofs.Found.{IsChecking}
use Rattle.nesl_types_shared.proofs.renaming.is_renamed_part.Given as goal

abbrev pub invariant-loop-next : goal.invariant-loop-next
invariant-loop-next l = IsChecking (replacement l.bank l.of) l.bank l.from l.part l.place l.next l.wanted.items

abbrev pub decreases-loop-next : goal.decreases-loop-next
decreases-loop-next l = l.next
