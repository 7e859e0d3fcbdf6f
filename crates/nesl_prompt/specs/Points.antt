-- The state of a conversation, and the lines that the session is given.
use Rattle.std.specs.Prelude.{◌≡◌, ℕ, List, [], ◌∷◌, ◌++◌, Bool, false, not, ◌&&◌}
use Rattle.nesl_session_meaning.specs.State.{Log}
use Rattle.nesl_session_meaning.specs.Response.{Reply}
use Rattle.nesl_session_meaning.specs.Solo.{Responds}
use Rattle.nesl_prompt.specs.declared.style.Style.{Style}

-- an unfinished form, its lines joined, and the session
pub record Point : Type 0 where
  pub form : List ℕ
  pub log : Log

-- a line that the session was given, and its reply
pub record LineAndReply : Type 0 where
  pub line : List ℕ
  pub reply : Reply

-- the session was given these lines one after another, and gave these replies
abbrev pub Replied : Log → List LineAndReply → Log → Type 0
Replied log [] log' = log' ≡ log
Replied log (said ∷ more) log' = (mid : Log) × Responds log said.line said.reply mid × Replied mid more log'

-- the session was given some lines
pub record WasGiven (log log' : Log) : Type 0 where
  pub lines : List LineAndReply
  pub replied : Replied log lines log'

-- the session was given some lines, and none where `gives_any` is false
pub record Obeyed (gives_any : Bool) (log log' : Log) : Type 0 where
  pub lines : List LineAndReply
  pub none : gives_any ≡ false → lines ≡ []
  pub replied : Replied log lines log'

-- a form with one more line, after a blank unless it is the first
abbrev pub joined : (form line : List ℕ) → List ℕ
joined [] line = line
joined (b ∷ bs) line = b ∷ bs ++ 32 ∷ line

-- neither prompts nor hints are written
abbrev pub is_plain : Style → Bool
is_plain style = not style.prompts && not style.hints
