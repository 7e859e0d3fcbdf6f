-- Hints below answers.
use Rattle.std.specs.Prelude.{◌≡◌, ℕ, List, [], ◌∷◌, ◌++◌, false, codes, nat_lt, if◌then◌else◌}
use Rattle.nesl_house.specs.Runs.{Account}
use Rattle.nesl_line.specs.declared.exchange.End.{End}
use Rattle.nesl_line.specs.Conversation.{HouseConversation}
use Rattle.nesl_line.specs.Exchange.{Hearing, IsExchange, Streams}
use Rattle.nesl_line.specs.Lines.{HasNoFeed}

-- how a byte of a hint is written: a blank in place of a line end, and of each other byte below 32
abbrev pub shown : ℕ → ℕ
shown b = if nat_lt b 32 then 32 else b

-- one line that begins with this
pub record IsHintLine (front more : List ℕ) : Type 0 where
  pub rest : List ℕ
  pub one_line : HasNoFeed rest
  pub spelled : more ≡ front ++ rest ++ 10 ∷ []

-- below the answer there is nothing, or such a line
pub data HasHint (front answer text : List ℕ) : Type 0 where
  alone : text ≡ answer → HasHint front answer text
  hinted : (more : List ℕ) → IsHintLine front more → text ≡ answer ++ more → HasHint front answer text

-- the same for each of the answers
abbrev pub HaveHints : (front : List ℕ) (answers texts : List (List ℕ)) → Type 0
HaveHints front [] [] = Unit {0}
HaveHints front (answer ∷ answers) (text ∷ texts) = HasHint front answer text × HaveHints front answers texts
HaveHints front [] (text ∷ texts) = ⊥
HaveHints front (answer ∷ answers) [] = ⊥

-- what was heard, with hints below the answers
pub record WithHints (front : List ℕ) (Heard : Hearing) (lines texts : List (List ℕ)) : Type 0 where
  pub answers : List (List ℕ)
  pub heard : Heard lines answers
  pub hints : HaveHints front answers texts

-- how the hints of a batch begin, and those that are JSON
abbrev pub plain_front : List ℕ
plain_front = codes "hint: "

abbrev pub json_front : List ℕ
json_front = codes "{\"hint\": "

-- A batch as in `IsBatch`, with hints below its answers.
abbrev pub IsHintedBatch : (house house' : List Account) → End → ℕ → Streams → Type 0
IsHintedBatch house house' end count streams =
    IsExchange (WithHints plain_front (λ lines answers. HouseConversation house lines answers house')) false end count
    streams
