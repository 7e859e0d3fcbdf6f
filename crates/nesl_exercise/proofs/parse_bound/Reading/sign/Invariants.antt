use Rattle.std.proofs.Common.{vec_len}
use Rattle.nesl_exercise.proofs.parse_bound.Reading.sign.Given as goal

abbrev pub decreases-signs : goal.decreases-signs
decreases-signs l = vec_len l.self.waiting
