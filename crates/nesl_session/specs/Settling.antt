-- When a line can change the state by what was found of it.
use Rattle.std.specs.Prelude.{◌≡◌, ◌≤◌, ◌<◌, ◌+◌, ◌^◌, ℕ, true, List, length, sum_by}
use Rattle.nesl_session_meaning.specs.State.{State}
use Rattle.nesl_session_meaning.specs.Step.{recorded_by_reset, most_recorded, is_part}
use Rattle.nesl_session.specs.declared.forms.finding.Finding.{Finding as Found}
use Rattle.nesl_session.specs.declared.forms.finding.Finding.TheVariants as found
use Rattle.nesl_session.specs.Found.{work_of, CanBe}

-- the line fits the transcript
abbrev pub HasRoomFor : State → List ℕ → Type 0
HasRoomFor s line = sum_by length s.transcript + length line < 2 ^ 64

-- the line can change the state by what was found of it
abbrev pub CanSettle : State → List ℕ → Found → Type 0
CanSettle s line (found.Unread fault) = Unit {0}
CanSettle s line found.Reset = recorded_by_reset s ≤ most_recorded
CanSettle s line found.Part = HasRoomFor s line × (is_part line ≡ true)
CanSettle s line (found.Refused fault work) = HasRoomFor s line × (work ≤ s.work_left)
CanSettle s line (found.Answered t) = HasRoomFor s line
CanSettle s line (found.Defined d) = HasRoomFor s line × (work_of d.meaning ≤ s.work_left) × CanBe s.bindings d
