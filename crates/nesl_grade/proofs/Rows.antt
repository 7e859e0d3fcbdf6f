-- Rows of numbers, and outcomes that aren't passed.
use Rattle.std.proofs.Common.{◌≡◌, ℕ, List, refl}
use Rattle.nesl_exercise.specs.declared.bound.Op.{Op}
use Rattle.nesl_exercise.specs.declared.measure.Measure.{Measure}
use Rattle.nesl_grade.specs.declared.examined.Examined.{Examined}
use Rattle.nesl_exercise.specs.declared.outcome.Outcome.{Outcome}
use Rattle.nesl_exercise.specs.declared.outcome.Outcome.TheVariants.{Passed, Other, Over, Refused, Unbounded, Absent, Present}
use Rattle.nesl_grade.specs.Outcomes.{TellsAt, TellsFirst, TellsOver, TellsRow}

-- at one n, what isn't passed tells why
pub over_at : (s : Examined) (exp : List ℕ) (measure : Measure) (ops : List Op) (n : ℕ) (o : Outcome)
    → TellsAt s exp measure ops n o → ¬ (o ≡ Passed) → TellsOver s exp measure ops n o
over_at s exp measure ops n Passed h bad = absurd (bad refl)
over_at s exp measure ops n (Other got want) h bad = h
over_at s exp measure ops n (Over m cost bound) h bad = h
over_at s exp measure ops n (Refused m got) h bad = h
over_at s exp measure ops n (Unbounded m fault) h bad = h
over_at s exp measure ops n Absent h bad = h
over_at s exp measure ops n Present h bad = h

-- and so does that of a row
pub first_over : (s : Examined) (exp : List ℕ) (measure : Measure) (ops : List Op) (row : List ℕ) (o : Outcome)
    → TellsFirst s exp measure ops row o → ¬ (o ≡ Passed) → TellsRow s exp measure ops row o
first_over s exp measure ops row Passed h bad = absurd (bad refl)
first_over s exp measure ops row (Other got want) h bad = h
first_over s exp measure ops row (Over m cost bound) h bad = h
first_over s exp measure ops row (Refused m got) h bad = h
first_over s exp measure ops row (Unbounded m fault) h bad = h
first_over s exp measure ops row Absent h bad = h
first_over s exp measure ops row Present h bad = h
