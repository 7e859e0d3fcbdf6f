-- Laws of houses.
use Rattle.std.specs.Prelude.{◌≡◌, ◌++◌, ℕ, List, Some}
use Rattle.nesl_session_meaning.specs.State.{State, Log}
use Rattle.nesl_session_meaning.specs.Solo.{Replays}
use Rattle.nesl_house.specs.Script.{Event, kept_events, lines_of, replies_of}
use Rattle.nesl_house.specs.Runs.{Account, session_of, Runs}

-- a script that follows another goes on from the house that the first one leaves
abbrev pub ScriptsFollow : Type 0
ScriptsFollow =
    (old mid new : List Account) (first second : List Event)
    → Runs old first mid → Runs mid second new → Runs old (first ++ second) new

-- a user's names mean the same in both houses, by the replay of the lines that the user's session stored
abbrev pub SameBindings : List Account → List Account → List ℕ → Type 0
SameBindings house other user =
    (one two : Log) (s t : State) → session_of house user ≡ Some one → session_of other user ≡ Some two
    → Replays one s → Replays two t → s.bindings ≡ t.bindings

-- Two scripts agree on a user's kept lines, and the user has the same session in the houses that they start from. Then
-- the user gets the same replies, and has the same session and the same bindings afterwards.
abbrev pub OwnLinesDecide : Type 0
OwnLinesDecide =
    (one two after_one after_two : List Account) (said_one said_two : List Event) (user : List ℕ) (session : Log)
    → Runs one said_one after_one → Runs two said_two after_two
    → session_of one user ≡ Some session → session_of two user ≡ Some session
    → lines_of (kept_events user said_one) ≡ lines_of (kept_events user said_two)
    → (replies_of (kept_events user said_one) ≡ replies_of (kept_events user said_two))
    × (session_of after_one user ≡ session_of after_two user) × SameBindings after_one after_two user
