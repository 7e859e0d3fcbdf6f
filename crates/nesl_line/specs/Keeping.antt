-- What is kept of a session while its lines are answered.
use Rattle.std.specs.Prelude.{◌≡◌, ℕ, List, [], ◌∷◌, ◌++◌, Option, Some, None, Bool, true, false, length}
use Rattle.nesl_session_meaning.specs.declared.limits.Limits.{Limits}
use Rattle.nesl_session_meaning.specs.State.{State, Log, recorded_lines}
use Rattle.nesl_session_meaning.specs.Solo.{Replays, Responds}
use Rattle.nesl_session_meaning.specs.Response.{Reply}
use Rattle.nesl_house.specs.declared.lease.Receipt.{Receipt}
use Rattle.nesl_house.specs.Register.{Leased}
use Rattle.nesl_house.specs.Script.{Event}
use Rattle.nesl_line.specs.declared.keeper.Mark.{Mark}
use Rattle.nesl_line.specs.Guest.{IsHeard, Visits}

-- how many lines a session had recorded until the last reset, and how many it has stored since
abbrev pub MarkOf : Mark → Log → Type 0
MarkOf mark log = (mark.cleared ≡ log.cleared) × (mark.stored ≡ length log.lines)

-- A lease whose session may be another one, which is the replay of its lines. The place and the limits are the same.
pub record IsTakenUp (was now : Leased) : Type 0 where
  pub place : now.seat.place ≡ was.seat.place
  pub limits : now.seat.session.limits ≡ was.seat.session.limits
  pub counted : now.counted ≡ recorded_lines now.seat.session
  pub replayed : (s : State) × Replays now.seat.session s

-- `keeps` is which session a keeper keeps, and `leaves` which two sessions may come back if the process ends at some
-- moment from one keeper to a later one.
module _ {K : Type 0} (keeps : K → Log → Type 0) (leaves : K → K → Log → Log → Type 0) where
  -- A session, which was kept, got these lines one after another. Each line was kept before it was answered. If the
  -- process had ended meanwhile, the session before that line would have come back, or the session after it.
  pub data KeptAlong (start : K) (had : Log) : List Event → K → Log → Type 0 where
    kept : keeps start had → KeptAlong start had [] start had
    one_more :
        (script : List Event) (e : Event) (mid now : K) (is after : Log)
        → KeptAlong start had script mid is → Responds is e.line e.reply after
        → leaves mid now is after → keeps now after
        → KeptAlong start had (script ++ e ∷ []) now after

  -- A session was taken up, and got these lines since. If the process had ended while it was taken up, the same
  -- session would have come back.
  pub record KeptSince (start now : K) (had : Log) (script : List Event) (has : Log) : Type 0 where
    pub found : K
    pub same : leaves start found had had
    pub along : KeptAlong found had script now has

  -- A line was heard and could not be kept, so it got no answer. The session that comes back is the one before the line
  -- or the one after it.
  pub record LosesLine (start now : K) (had : Log) (script : List Event) (line : List ℕ) (has : Log) : Type 0 where
    pub mid : K
    pub is : Log
    pub reply : Reply
    pub kept_before : KeptSince start mid had script is
    pub responds : Responds is line reply has
    pub left : leaves mid now is has

  -- What was heard on a connection whose user's session is kept, by its receipt and by whether nothing more was heard.
  pub data IsHeardAndKept (roster : List (List ℕ)) (limits : Limits) (start now : K)
      : Option Receipt → (over : Bool) → (lines texts : List (List ℕ)) → Type 0 where
    -- nobody was seated
    nobody :
        (over : Bool) (lines texts : List (List ℕ))
        → IsHeard roster limits None over lines texts
        → IsHeardAndKept roster limits start now None over lines texts
    -- a user was seated, and each line was kept before its answer
    seated :
        (receipt : Receipt) (had has : Log) (lines texts : List (List ℕ))
        (v : Visits roster limits receipt.place receipt.recorded had has lines texts)
        → KeptSince start now had v.script has
        → IsHeardAndKept roster limits start now (Some receipt) false lines texts
    -- a user was seated, and the last line was not kept and got no answer
    lost :
        (receipt : Receipt) (recorded : ℕ) (had is has : Log) (lines texts : List (List ℕ)) (line : List ℕ)
        (v : Visits roster limits receipt.place recorded had is lines texts)
        → LosesLine start now had v.script line has
        → IsHeardAndKept roster limits start now (Some receipt) true (lines ++ line ∷ []) (texts ++ [] ∷ [])
