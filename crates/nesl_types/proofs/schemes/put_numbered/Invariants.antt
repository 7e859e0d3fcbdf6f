use Rattle.nesl_types_shared.specs.Numbering.{number_of}
use Rattle.nesl_types.proofs.Numbered.{AreNumbered}
use Rattle.nesl_types.proofs.schemes.put_numbered.Given as goal

abbrev pub invariant-loop-place : goal.invariant-loop-place
invariant-loop-place l = AreNumbered (number_of l.seen.keys) l.parts l.bank l.places.items l.place
