-- What is written at a prompt where no line is one of its own words.
use Rattle.std.specs.Prelude.{◌≡◌, ℕ, List, flat_map, true, false}
use Rattle.std.specs.List.{AllByRecursion}
use Rattle.nesl_session_meaning.specs.State.{Log}
use Rattle.nesl_line.specs.Exchange.{text_of}
use Rattle.nesl_prompt.specs.Points.{Point, LineAndReply, Replied}
use Rattle.nesl_prompt.specs.Words.{is_own}
use Rattle.nesl_prompt.specs.Conversation.{Conversed}

-- the bytes of the replies, in order
abbrev pub replies_of : List LineAndReply → List ℕ
replies_of said = flat_map (λ s. s.reply.bytes) said

-- The session was given some lines, and exactly its replies were written.
pub record IsTheSessions (log : Log) (written : List ℕ) (log' : Log) : Type 0 where
  pub said : List LineAndReply
  pub replied : Replied log said log'
  pub replies : written ≡ replies_of said

-- none of these lines is the prompt's own
abbrev pub HasNoOwn : List (List ℕ) → Type 0
HasNoOwn lines = AllByRecursion (λ line. is_own line ≡ false) lines

-- this holds of each conversation without the prompt's own words, where only replies are written
abbrev pub PromptsAreSessions : Type 0
PromptsAreSessions =
    (point point' : Point) (lines texts : List (List ℕ)) → Conversed true point lines texts point' → HasNoOwn lines
    → IsTheSessions point.log (text_of texts) point'.log
