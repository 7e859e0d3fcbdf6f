-- What a plain prompt does with a text whose bytes are known.
use Rattle.std.specs.Prelude.{◌≡◌, ◌≢◌, ◌⊎◌, ℕ, List, [], ◌++◌, true}
use Rattle.nesl_session_meaning.specs.State.{Log}
use Rattle.nesl_session_meaning.specs.Response.{Reply}
use Rattle.nesl_session_meaning.specs.Solo.{Responds}
use Rattle.nesl_line.specs.Lines.{AllLines}
use Rattle.nesl_line.specs.Exchange.{text_of}
use Rattle.nesl_prompt.specs.Points.{Point}
use Rattle.nesl_prompt.specs.Conversation.{Conversed, EndsWithQuit}

-- after the last line the session answers an unfinished form, and this text is written
pub data LastForm (point : Point) (text : List ℕ) (log : Log) : Type 0 where
  none_goes_on : point.form ≡ [] → text ≡ [] → log ≡ point.log → LastForm point text log
  answered :
      (reply : Reply) → point.form ≢ [] → Responds point.log point.form reply log → text ≡ reply.bytes
      → LastForm point text log

-- A plain prompt was given all lines of this text, or the first ones up to `:quit`. What it wrote are these bytes, and
-- the session was `log` and then `log'`.
pub record ConversesOver (log : Log) (text written : List ℕ) (log' : Log) : Type 0 where
  pub lines : List (List ℕ)
  pub more : List (List ℕ)
  pub texts : List (List ℕ)
  pub point : Point
  pub last : List ℕ
  pub all : AllLines text (lines ++ more)
  pub to_the_end : (more ≡ []) ⊎ EndsWithQuit lines
  pub conversed : Conversed true (record { form = []; log = log }) lines texts point
  pub ended : LastForm point last log'
  pub joined : written ≡ text_of texts ++ last

-- a plain prompt was given the first lines of this text, which may have left an unfinished form to the session
pub record ConversesFirst (log : Log) (text : List ℕ) (log' : Log) : Type 0 where
  pub lines : List (List ℕ)
  pub more : List (List ℕ)
  pub texts : List (List ℕ)
  pub point : Point
  pub all : AllLines text (lines ++ more)
  pub conversed : Conversed true (record { form = []; log = log }) lines texts point
  pub left : (log' ≡ point.log) ⊎ ((reply : Reply) × Responds point.log point.form reply log')
