-- Places for seats, each of which is at home or away.
use Rattle.std.specs.Prelude.{◌≡◌, ℕ, List, [], ◌∷◌, Bool, true, false, Some, map, slice_get, slice_index_or}
use Rattle.nesl_session_meaning.specs.declared.limits.Limits.{Limits}
use Rattle.nesl_session_meaning.specs.State.{recorded_lines, empty_log}
use Rattle.nesl_house.specs.declared.slots.Slot.{Slot}
use Rattle.nesl_house.specs.declared.slots.Slot.TheVariants.{Home, Away}
use Rattle.nesl_house.specs.Register.{Seat}

-- the number of lines that a slot counts: those that its session has recorded, or had recorded when it was taken out
abbrev pub counted : Slot → ℕ
counted (Home seat) = recorded_lines seat.session
counted (Away count) = count

-- the number of lines that the place at this index counts
abbrev pub counted_at : List Slot → ℕ → ℕ
counted_at slots place = counted (slice_index_or slots place (Away 0))

abbrev pub is_away : Slot → Bool
is_away (Home seat) = false
is_away (Away count) = true

-- a seat with an empty session, at home at its place
abbrev pub opened_at : Limits → ℕ → Slot
opened_at limits place = Home (record { place = place; session = empty_log limits })

-- each seat that is at home is at its own place
abbrev pub AreInPlace : List Slot → Type 0
AreInPlace slots = (place : ℕ) (seat : Seat) → slice_get slots place ≡ Some (Home seat) → seat.place ≡ place

-- the seats that are at home, in order of their places
abbrev pub at_home : List Slot → List Seat
at_home [] = []
at_home (Home seat ∷ slots) = seat ∷ at_home slots
at_home (Away count ∷ slots) = at_home slots

-- all seats are at home
abbrev pub AreHome : List Slot → Type 0
AreHome slots = slots ≡ map Home (at_home slots)
