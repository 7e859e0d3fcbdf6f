-- Laws of a session.
use Rattle.std.specs.Prelude.{◌≡◌, ◌++◌, ◌+◌, ℕ, List, [], ◌∷◌, if◌then◌else◌}
use Rattle.nesl_session_meaning.specs.declared.limits.Limits.{Limits}
use Rattle.nesl_session_meaning.specs.State.{State, Log, recorded_lines}
use Rattle.nesl_session_meaning.specs.Response.{Reply}
use Rattle.nesl_session_meaning.specs.Step.{Step}
use Rattle.nesl_session_meaning.specs.Solo.{Replays, SessionAnswers, Responds}

-- in one state, a line has one answer and leads to one state
abbrev pub OneStep : Type 0
OneStep =
    (limits : Limits) (s t u : State) (line : List ℕ) (q r : Reply)
    → Step limits s line q t → Step limits s line r u → (q ≡ r) × (t ≡ u)

-- the stored lines of a session have one replay, so that the session has one state
abbrev pub OneState : Type 0
OneState = (log : Log) (s t : State) → Replays log s → Replays log t → s ≡ t

-- alone, a session answers the same lines by the same replies, and becomes the same session
abbrev pub OneRun : Type 0
OneRun =
    (old new other : Log) (lines : List (List ℕ)) (replies others : List Reply)
    → SessionAnswers old lines replies new → SessionAnswers old lines others other → (replies ≡ others) × (new ≡ other)

-- further lines go on from the session that the earlier lines left
abbrev pub GoesOn : Type 0
GoesOn =
    (old mid new : Log) (lines more : List (List ℕ)) (replies others : List Reply)
    → SessionAnswers old lines replies mid → SessionAnswers mid more others new
    → SessionAnswers old (lines ++ more) (replies ++ others) new

-- a recorded line, a reset included, counts as one more line; any other line counts as none
abbrev pub RecordedLinesGrow : Type 0
RecordedLinesGrow =
    (old new : Log) (line : List ℕ) (reply : Reply)
    → Responds old line reply new → recorded_lines new ≡ recorded_lines old + (if reply.recorded then 1 else 0)

-- a line changes no limit
abbrev pub LimitsStay : Type 0
LimitsStay =
    (old new : Log) (line : List ℕ) (reply : Reply) → Responds old line reply new → new.limits ≡ old.limits

-- What a line leaves of the lines that a session stores: they are as they were, or the line is stored after them, or it
-- was a reset, after which none is stored.
pub data Stores (old : Log) (line : List ℕ) : Log → Type 0 where
  nothing : Stores old line old
  the_line : Stores old line (record old { lines = old.lines ++ line ∷ [] })
  reset :
      (base : ℕ)
      → Stores old line (record { limits = old.limits; base = base; cleared = recorded_lines old + 1; lines = [] })

-- a line stores itself at most
abbrev pub LinesAreStored : Type 0
LinesAreStored =
    (old new : Log) (line : List ℕ) (reply : Reply) → Responds old line reply new → Stores old line new
