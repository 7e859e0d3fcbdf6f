-- What is found of a line, check by check.
use Rattle.std.proofs.Common.{◌≡◌, ℕ, ◌+◌, List, Bool, true, false, length, nat_lt, refl, sym, subst}
use Rattle.std.specs.Prelude.{if◌then◌else◌}
use Rattle.std.proofs.lemmas.Bool.{ltb-true, ltb-false}
use Rattle.nesl_reply.specs.declared.fault.Fault.TheVariants as faults
use Rattle.nesl_session_meaning.specs.declared.limits.Limits.{Limits}
use Rattle.nesl_session.specs.declared.forms.finding.Finding.{Finding as Found}
use Rattle.nesl_session.specs.declared.forms.finding.Finding.TheVariants as found
use Rattle.nesl_session_meaning.specs.State.{State}
use Rattle.nesl_session_meaning.specs.Finding.{Finding, unread, reset, part}
use Rattle.nesl_session_meaning.specs.Step.{Finds, is_reset, is_full, is_part, longest, most_recorded, recorded_by_reset}
use Rattle.nesl_session_meaning.specs.Step.{reset_too_often, resets, too_long, one_part, is_read}
use Rattle.nesl_session.specs.Found.{CanCharge}
use Rattle.nesl_session.specs.Reading.{FindsRead}
use Rattle.nesl_session.specs.Settling.{CanSettle, HasRoomFor}

pub finds_reset : (limits : Limits) (s : State) (line : List ℕ) (f : Finding) → is_reset line ≡ true
    → f ≡ (if nat_lt most_recorded (recorded_by_reset s) then unread faults.Transcript else reset) → Finds limits s line f
finds_reset limits s line f e h =
    let P : Finding → Type 0 = Finds limits s line in
    subst P (sym h) (by (nat_lt most_recorded (recorded_by_reset s)) refl)
  where
    by : (b : Bool) → nat_lt most_recorded (recorded_by_reset s) ≡ b → Finds limits s line (if b then unread faults.Transcript else reset)
    by true o = reset_too_often e (ltb-true most_recorded (recorded_by_reset s) o)
    by false o = resets e (ltb-false most_recorded (recorded_by_reset s) o)

pub finds_long : (limits : Limits) (s : State) (line : List ℕ) → is_reset line ≡ false → is_full limits s line ≡ false → nat_lt longest (length s.pending + length line) ≡ true
    → Finds limits s line (unread faults.Long)
finds_long limits s line e full long = too_long e full (ltb-true longest (length s.pending + length line) long)

pub finds_part : (limits : Limits) (s : State) (line : List ℕ) → is_reset line ≡ false → is_full limits s line ≡ false → nat_lt longest (length s.pending + length line) ≡ false
    → is_part line ≡ true → Finds limits s line part
finds_part limits s line e full long p = one_part e full (ltb-false longest (length s.pending + length line) long) p

pub finds_read : (limits : Limits) (s : State) (line : List ℕ) (f : Finding) → is_reset line ≡ false → is_full limits s line ≡ false → nat_lt longest (length s.pending + length line) ≡ false
    → is_part line ≡ false → FindsRead limits s line f → Finds limits s line f
finds_read limits s line f e full long p h = is_read e full (ltb-false longest (length s.pending + length line) long) p h.1 h.2

-- what was found of a line that was read can change the state, where the line fits
pub settles_read : (s : State) (line : List ℕ) (f : Found) → HasRoomFor s line → CanCharge s f → CanSettle s line f
settles_read s line (found.Unread fault) fits h = absurd h
settles_read s line found.Reset fits h = absurd h
settles_read s line found.Part fits h = absurd h
settles_read s line (found.Refused fault work) fits h = (fits, h)
settles_read s line (found.Answered t) fits h = fits
settles_read s line (found.Defined d) fits h = (fits, h.0, h.1)
