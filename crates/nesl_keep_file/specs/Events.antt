-- What happened to the file of a user.
use Rattle.std.specs.Prelude.{◌≡◌, ℕ, List, [], cond, ◌==◌, refl}
use Rattle.std.specs.Coded.{Coded, code_by, coded×, coded_ℕ, coded_list}
use mathlib.Core.Path.{ap}
use Rattle.nesl_keep_file.specs.declared.calls.Outcome.{Outcome}
use Rattle.nesl_keep_file.specs.declared.calls.Outcome.TheVariants.{Done, Failed}

pub data Event : Type 0 where
  -- the file and its folder were synced, and then these bytes were read
  opened : List ℕ → Event
  -- these bytes were to be written at this offset
  written : ℕ → List ℕ → Outcome → Event
  -- these bytes were to be put in the place of all
  replaced : List ℕ → Outcome → Event
  -- the file was to be brought to the disk
  synced : Outcome → Event

-- how the logic stores an event: a number for its kind, an offset, a number for its outcome, and its bytes
abbrev Parts : Type 0
Parts = ℕ × (ℕ × (ℕ × List ℕ))

abbrev outcome_number : Outcome → ℕ
outcome_number Done = 0
outcome_number Failed = 1

abbrev outcome_at : ℕ → Outcome
outcome_at n = cond (n == 0) Done Failed

pub outcome_at-outcome_number : (o : Outcome) → outcome_at (outcome_number o) ≡ o
outcome_at-outcome_number Done = refl
outcome_at-outcome_number Failed = refl

abbrev to_parts : Event → Parts
to_parts (opened bytes) = (0, (0, (0, bytes)))
to_parts (written at bytes outcome) = (1, (at, (outcome_number outcome, bytes)))
to_parts (replaced bytes outcome) = (2, (0, (outcome_number outcome, bytes)))
to_parts (synced outcome) = (3, (0, (outcome_number outcome, [])))

abbrev from_parts : Parts → Event
from_parts p =
    cond (p.0 == 0) (opened p.1.1.1) (cond (p.0 == 1) (written p.1.0 p.1.1.1 (outcome_at p.1.1.0))
    (cond (p.0 == 2) (replaced p.1.1.1 (outcome_at p.1.1.0)) (synced (outcome_at p.1.1.0))))

pub from_parts-to_parts : (e : Event) → from_parts (to_parts e) ≡ e
from_parts-to_parts (opened bytes) = refl
from_parts-to_parts (written at bytes outcome) = ap (written at bytes) (outcome_at-outcome_number outcome)
from_parts-to_parts (replaced bytes outcome) = ap (replaced bytes) (outcome_at-outcome_number outcome)
from_parts-to_parts (synced outcome) = ap synced (outcome_at-outcome_number outcome)

abbrev pub events_code : Coded (List Event)
events_code =
    coded_list (code_by Parts (coded× coded_ℕ (coded× coded_ℕ (coded× coded_ℕ (coded_list coded_ℕ)))) to_parts from_parts
    from_parts-to_parts)
