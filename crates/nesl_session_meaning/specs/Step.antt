-- One line of a session: what is found, what is answered, and what changes.
use Rattle.std.specs.Prelude.{◌≡◌, ℕ, ◌<◌, ◌≤◌, ◌+◌, ◌-◌, ◌^◌, ◌==◌, List, [], ◌∷◌, ◌++◌, Bool, false, true, ◌||◌}
use Rattle.std.specs.Prelude.{Option, Some, None}
use Rattle.std.specs.Prelude.{length, take, sum_by, nat_lt, nat_le, codes}
use Rattle.std.specs.Str.{bytes_eq}
use Rattle.nesl_reply.specs.declared.fault.Fault.TheVariants as faults
use Rattle.nesl_reply.specs.Replies as replies
use Rattle.nesl_session_meaning.specs.declared.limits.Limits.{Limits}
use Rattle.nesl_session_bindings.specs.Meanings.{Binding}
use Rattle.nesl_session_meaning.specs.State.{State, opening}
use Rattle.nesl_session_bindings.specs.Known.{put_binding}
use Rattle.nesl_session_meaning.specs.Reading.{Reading, HasReading}
use Rattle.nesl_session_meaning.specs.Finding.{Finding, unread, reset, part, refused, answered, FindsReading}
use Rattle.nesl_session_meaning.specs.Response.{Reply, fault_reply, plain_reply}

-- a reset is these six bytes, and no others
abbrev pub is_reset : List ℕ → Bool
is_reset line = bytes_eq line (codes ":reset")

-- the most lines that a session may have recorded once it is reset, resets included
abbrev pub most_recorded : ℕ
most_recorded = 2 ^ 56

abbrev pub recorded_by_reset : State → ℕ
recorded_by_reset s = s.cleared + length s.transcript + 1

-- the transcript has no room for the line
abbrev pub is_full : Limits → State → List ℕ → Bool
is_full limits s line =
    nat_le limits.transcript_lines (length s.transcript)
    || nat_lt limits.transcript_bytes (sum_by length s.transcript + length line)

-- the most bytes of a form, with the parts that came before
abbrev pub longest : ℕ
longest = 65536

-- a line is part of a form that isn't complete yet if its last byte is `\`
abbrev pub is_part : List ℕ → Bool
is_part [] = false
is_part (b ∷ []) = b == 92
is_part (b ∷ c ∷ bs) = is_part (c ∷ bs)

-- the text of all parts with this one, which has a blank in place of its last byte
abbrev pub with_part : State → List ℕ → List ℕ
with_part s line = s.pending ++ (take (length line - 1) line ++ codes " ")

-- What is found of a line: the first of these checks that fails, in this order, or else what the reading of the text
-- asks for. The text is that of the parts before it and of the line. A line that is refused unread needs no reading.
pub data Finds (limits : Limits) (s : State) (line : List ℕ) : Finding → Type 0 where
  reset_too_often :
      is_reset line ≡ true → most_recorded < recorded_by_reset s
      → Finds limits s line (unread faults.Transcript)
  resets : is_reset line ≡ true → recorded_by_reset s ≤ most_recorded → Finds limits s line reset
  transcript_full :
      is_reset line ≡ false → is_full limits s line ≡ true → Finds limits s line (unread faults.Transcript)
  too_long :
      is_reset line ≡ false → is_full limits s line ≡ false → longest < length s.pending + length line
      → Finds limits s line (unread faults.Long)
  one_part :
      is_reset line ≡ false → is_full limits s line ≡ false → length s.pending + length line ≤ longest
      → is_part line ≡ true → Finds limits s line part
  is_read :
      {reading : Reading} {f : Finding}
      → is_reset line ≡ false → is_full limits s line ≡ false → length s.pending + length line ≤ longest
      → is_part line ≡ false → HasReading (s.pending ++ line) reading → FindsReading limits s reading f
      → Finds limits s line f

abbrev pub with_line : List ℕ → State → State
with_line line s = record s { transcript = s.transcript ++ line ∷ [] }

-- a line that was read is stored and charged, and no part of a form is left
abbrev pub charged : List ℕ → ℕ → State → State
charged line work s = record (with_line line s) { work_left = s.work_left - work; pending = [] }

abbrev pub with_binding : Option Binding → State → State
with_binding None s = s
with_binding (Some b) s = record s { bindings = put_binding b.name b.meaning s.bindings }

-- the state after a line, by what was found of it
abbrev pub after : List ℕ → State → Finding → State
after line s (unread fault) = s
after line s reset = opening s.work_left (recorded_by_reset s)
after line s part = record (with_line line s) { pending = with_part s line }
after line s (refused fault work) = charged line work s
after line s (answered report work binding) = with_binding binding (charged line work s)

-- the reply to a line, by what was found of it
abbrev pub reply_of : State → Finding → Reply
reply_of s (unread fault) = fault_reply fault false
reply_of s reset = plain_reply s (replies.cleared (length s.transcript))
reply_of s part = plain_reply s replies.more
reply_of s (refused fault work) = fault_reply fault true
reply_of s (answered report work binding) = plain_reply s report

-- In the state `s` this reply answers the line, which leaves the state `s'`.
unfoldable pub Step : Limits → State → List ℕ → Reply → State → Type 0
Step limits s line reply s' =
    (finding : Finding) × Finds limits s line finding × (reply ≡ reply_of s finding) × (s' ≡ after line s finding)
