use Rattle.nesl_types_shared.proofs.Reached.{AreRenamedBelow}
use Rattle.nesl_types_shared.proofs.renaming.rename.Given as goal

abbrev pub invariant-loop-place : goal.invariant-loop-place
invariant-loop-place l = AreRenamedBelow l.of l.initial.to l.to l.from l.places.items l.place
