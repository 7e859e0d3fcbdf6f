use Rattle.std.proofs.Common.{vec_len}
use Rattle.nesl_exercise.proofs.parse_bound.Reading.close.Given as goal

abbrev pub decreases-waiting : goal.decreases-waiting
decreases-waiting l = vec_len l.self.waiting
