-- What is determined of the replies to a text.
use Rattle.std.specs.Prelude.{◌≡◌, ℕ, List, Some, false}
use Rattle.std.specs.List.{AllByRecursion}
use Rattle.nesl_session_meaning.specs.State.{Log}
use Rattle.nesl_session_meaning.specs.Response.{is_memory}
use Rattle.nesl_house.specs.Script.{Event}
use Rattle.nesl_house.specs.Runs.{Account, session_of}
use Rattle.nesl_line.specs.Batch.{AnswersAll}

-- none of these lines is refused because memory ran out
abbrev pub HadMemory : List Event → Type 0
HadMemory events = AllByRecursion (λ e. is_memory e.reply ≡ false) events

-- A house answers a text twice, and memory never runs out. Then the replies are the same, and so is each user's session
-- afterwards.
abbrev pub OneAnswer : Type 0
OneAnswer =
    (house one two : List Account) (text replies others : List ℕ)
    → (a : AnswersAll house text replies one) (b : AnswersAll house text others two)
    → HadMemory a.answered.events → HadMemory b.answered.events
    → (replies ≡ others)
    × ((user : List ℕ) (session : Log) → session_of house user ≡ Some session
    → session_of one user ≡ session_of two user)
