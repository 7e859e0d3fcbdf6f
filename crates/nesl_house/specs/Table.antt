-- Seats that are taken out of a table and given back.
use Rattle.std.specs.Prelude.{◌≡◌, ◌≢◌, ℕ, List, [], ◌∷◌, map, sum_by}
use Rattle.std.specs.List.{AllByRecursion, range_with_len}
use Rattle.nesl_session_meaning.specs.State.{State, recorded_lines}
use Rattle.nesl_session_meaning.specs.Solo.{Replays}
use Rattle.nesl_house.specs.Runs.{Account, roster_of}
use Rattle.nesl_house.specs.Register.{Register, Seat}
use Rattle.nesl_house.specs.declared.lease.Receipt.{Receipt}
use Rattle.nesl_house.specs.declared.table.CloseFault.{CloseFault}
use Rattle.nesl_house.specs.declared.table.CloseFault.TheVariants.{StillOut, Missing}

-- the number of lines that these receipts are for
abbrev pub recorded_in : List Receipt → ℕ
recorded_in receipts = sum_by (λ (r : Receipt). r.recorded) receipts

-- the users of a roster, each with the session of the seat at their place
abbrev pub seated : List (List ℕ) → List Seat → List Account
seated (name ∷ names) (seat ∷ seats) = record { name = name; session = seat.session } ∷ seated names seats
seated _ _ = []

-- the session of each is the replay of the lines that it stored
abbrev pub AreReplays : List Seat → Type 0
AreReplays seats = AllByRecursion (λ (seat : Seat). (s : State) × Replays seat.session s) seats

-- What has become of a table of this roster. It held the seats of the 64 places, in order. The users of the house are
-- those of the roster, each with the session of the seat at their place. All sessions together have recorded this
-- number of lines.
pub record IsClosed (roster : List (List ℕ)) (house : List Account) (lines : ℕ) : Type 0 where
  pub held : List Seat
  pub places : map (λ (seat : Seat). seat.place) held ≡ range_with_len 0 64
  pub replayed : AreReplays held
  pub names : roster_of house ≡ roster
  pub users : house ≡ seated roster held
  pub recorded : lines ≡ sum_by (λ (seat : Seat). recorded_lines seat.session) held

-- A table that isn't closed is handed back, with the receipts. If some receipts are missing, the number of lines that
-- the others are for is reported; it isn't the number that the table holds.
abbrev pub HandsBack : Register → List Receipt → CloseFault → Type 0
HandsBack old receipts (StillOut table given place) = (table ≡ old) × (given.items ≡ receipts)
HandsBack old receipts (Missing table given counted_lines held) =
    (table ≡ old) × (given.items ≡ receipts) × (counted_lines ≡ recorded_in receipts) × (held ≢ counted_lines)
