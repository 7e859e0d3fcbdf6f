-- What a house may answer to a script.
use Rattle.std.specs.Prelude.{◌≡◌, ℕ, List, [], ◌∷◌, Option, Some, None, true, map, if◌then◌else◌}
use Rattle.std.specs.List.{AllByRecursion}
use Rattle.std.specs.Str.{bytes_eq}
use Rattle.nesl_session_meaning.specs.State.{State, Log}
use Rattle.nesl_session_meaning.specs.Response.{no_memory, no_user, is_memory}
use Rattle.nesl_session_meaning.specs.Solo.{Replays, SessionAnswers}
use Rattle.nesl_house.specs.Script.{Event, lines_of, replies_of, kept_events}

-- A house is a list of accounts: a user's name, and that user's session.
pub record Account : Type 0 where
  pub name : List ℕ
  pub session : Log

-- the names of the users, in order
abbrev pub roster_of : List Account → List (List ℕ)
roster_of house = map (λ account. account.name) house

-- the session of this user, if the house has the user
abbrev pub session_of : List Account → List ℕ → Option Log
session_of [] user = None
session_of (account ∷ accounts) user =
    if bytes_eq account.name user then Some account.session else session_of accounts user

-- each session is the replay of the lines that it stored
abbrev pub AllReplay : List Account → Type 0
AllReplay house = AllByRecursion (λ account. (s : State) × Replays account.session s) house

-- To one user the house is a session that no one else uses. Alone, the session `old` answers these lines by these
-- replies, and becomes what the user has afterwards. A stranger has no session, and gets none.
abbrev pub RunsAlone : Option Log → List Event → Option Log → Type 0
RunsAlone None events after = after ≡ None
RunsAlone (Some old) events after =
    (new : Log) × (after ≡ Some new) × SessionAnswers old (lines_of events) (replies_of events) new

-- A stranger gets `fault user`. A reply with the fault `Memory` is `fault memory` and nothing else.
pub record IsReplied (house : List Account) (e : Event) : Type 0 where
  pub stranger : session_of house e.user ≡ None → e.reply ≡ no_user
  pub memory : is_memory e.reply ≡ true → e.reply ≡ no_memory

-- The house `old` answers a script, one line after another, and is the house `new` afterwards. It has the same users.
-- Each of them gets the replies that a session alone gives to that user's kept lines.
pub record Runs (old : List Account) (events : List Event) (new : List Account) : Type 0 where
  pub roster : roster_of new ≡ roster_of old
  pub each : AllByRecursion (IsReplied old) events
  pub users : (user : List ℕ) → RunsAlone (session_of old user) (kept_events user events) (session_of new user)
