use Rattle.std.proofs.Common.{take}
use Rattle.nesl_line.specs.Steps.{NamesFit}
use Rattle.nesl_line.proofs.batch.longest_name.Given as goal

abbrev pub invariant-loop-user : goal.invariant-loop-user
invariant-loop-user l = NamesFit l.longest (take l.user-index l.users)
