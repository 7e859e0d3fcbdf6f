use Rattle.std.proofs.Common.{length}
use Rattle.nesl_exercise.proofs.exercise.parse_exercise.Given as goal

abbrev pub decreases-lines : goal.decreases-lines
decreases-lines l = length l.rest
