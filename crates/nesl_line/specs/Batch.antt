-- What a batch reads and writes, and what becomes of the house that hears it.
use Rattle.std.specs.Prelude.{◌≡◌, ℕ, List, ◌++◌, false}
use Rattle.nesl_house.specs.Runs.{Account}
use Rattle.nesl_line.specs.declared.exchange.End.{End}
use Rattle.nesl_line.specs.Lines.{AllLines}
use Rattle.nesl_line.specs.Conversation.{HouseConversation}
use Rattle.nesl_line.specs.Exchange.{IsExchange, Streams, text_of}

-- A house answered all lines of a text, one after another, and became `house'`. The replies are these bytes.
pub record AnswersAll (house : List Account) (text replies : List ℕ) (house' : List Account) : Type 0 where
  pub lines : List (List ℕ)
  pub texts : List (List ℕ)
  pub all : AllLines text lines
  pub answered : HouseConversation house lines texts house'
  pub joined : replies ≡ text_of texts

-- A house answered the first lines of a text, and became `house'`. The other lines were not heard.
pub record AnswersFirst (house : List Account) (text : List ℕ) (house' : List Account) : Type 0 where
  pub lines : List (List ℕ)
  pub more : List (List ℕ)
  pub texts : List (List ℕ)
  pub all : AllLines text (lines ++ more)
  pub answered : HouseConversation house lines texts house'

-- A batch over these streams that ended so and answered `count` lines, while the house became `house'`. All lines are
-- heard to the end of input.
abbrev pub IsBatch : (house house' : List Account) → End → ℕ → Streams → Type 0
IsBatch house house' end count streams =
    IsExchange (λ lines texts. HouseConversation house lines texts house') false end count streams
