use Rattle.std.proofs.Common.{◌≡◌, ◌++◌, drop}
use Rattle.nesl_seqs_base.specs.Sides.{marked}
use Rattle.nesl_seqs_build.proofs.sides.beside.Given as goal

abbrev pub invariant-loop-place : goal.invariant-loop-place
invariant-loop-place g l = l.kept.items ++ marked l.wanted (drop l.place l.items) (drop l.place l.flags) ≡ marked l.wanted l.items l.flags
