use Rattle.std.proofs.Common.{take, map}
use Rattle.nesl_house.specs.Roster.{AreUsers}
use Rattle.nesl_house.proofs.roster.check.Given as goal

abbrev pub invariant-loop-place : goal.invariant-loop-place
invariant-loop-place l = AreUsers (map (λ v. v.items) (take l.place l.roster))
