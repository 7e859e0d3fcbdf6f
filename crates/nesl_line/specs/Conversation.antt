-- What is replied to the lines that come in.
use Rattle.std.specs.Prelude.{◌≡◌, ◌≢◌, ℕ, ◌<◌, List, [], ◌∷◌, ◌++◌, Option, Some, None, true, ◌||◌, length, codes}
use Rattle.std.specs.List.{AllByRecursion}
use Rattle.nesl_session_meaning.specs.Response.{Reply, no_user}
use Rattle.nesl_house.specs.Roster.{is_digit, is_small_letter}
use Rattle.nesl_house.specs.Script.{Event}
use Rattle.nesl_house.specs.Runs.{Account, session_of, Runs}
use Rattle.nesl_line.specs.Lines.{with_feed}

-- a user line: `user`, one space, a name of small letters and digits, and nothing else
pub record IsUserLine (line name : List ℕ) : Type 0 where
  pub spelled : line ≡ codes "user " ++ name
  pub some : 0 < length name
  pub bytes : AllByRecursion (λ b. (is_small_letter b || is_digit b) ≡ true) name

-- this is no user line
abbrev pub NamesNobody : List ℕ → Type 0
NamesNobody line = (name : List ℕ) → ¬ IsUserLine line name

-- One line that comes while `who` is selected: its reply, what is said to a session for it, and who is selected
-- afterwards. A user line selects its user, if that is one of the house, and gets itself back. Another user line gets
-- `fault user`, and then nobody is selected. So does any other line while nobody is selected. While a user is selected,
-- any other line is said to that user's session, and gets its reply.
pub data Turn (house : List Account) (who : Option (List ℕ)) (line : List ℕ)
    : List ℕ → List Event → Option (List ℕ) → Type 0 where
  selects :
      (name : List ℕ) → IsUserLine line name → session_of house name ≢ None
      → Turn house who line (with_feed line) [] (Some name)
  stranger :
      (name : List ℕ) → IsUserLine line name → session_of house name ≡ None → Turn house who line no_user.bytes [] None
  nobody : NamesNobody line → who ≡ None → Turn house who line no_user.bytes [] None
  says :
      (user : List ℕ) (reply : Reply) → NamesNobody line → who ≡ Some user
      → Turn house who line reply.bytes (record { user = user; line = line; reply = reply } ∷ []) (Some user)

-- Lines that come one after another while `who` is selected: their replies, what is said to sessions for them, and who
-- is selected afterwards.
pub data Conversation (house : List Account)
    : Option (List ℕ) → List (List ℕ) → List (List ℕ) → List Event → Option (List ℕ) → Type 0 where
  silence : (who : Option (List ℕ)) → Conversation house who [] [] [] who
  goes_on :
      (who next last : Option (List ℕ)) (line text : List ℕ) (lines texts : List (List ℕ)) (events more : List Event)
      → Turn house who line text events next → Conversation house next lines texts more last
      → Conversation house who (line ∷ lines) (text ∷ texts) (events ++ more) last

-- At first nobody is selected. The lines get these texts, and `who` is selected afterwards. The house answers what is
-- said to it, and becomes `house'`.
pub record HouseConversation (house : List Account) (lines texts : List (List ℕ)) (house' : List Account) : Type 0 where
  pub who : Option (List ℕ)
  pub events : List Event
  pub said : Conversation house None lines texts events who
  pub runs : Runs house events house'
