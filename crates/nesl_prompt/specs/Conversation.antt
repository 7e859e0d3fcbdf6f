-- What is written at a prompt.
use Rattle.std.specs.Prelude.{◌≡◌, ◌≢◌, ℕ, ◌<◌, ◌≤◌, length, List, [], ◌∷◌, ◌++◌, Option, None, Bool, true, false}
use Rattle.std.specs.Prelude.{codes, if◌then◌else◌}
use Rattle.nesl_reply.specs.declared.fault.Fault.{Fault}
use Rattle.nesl_session_meaning.specs.State.{Log}
use Rattle.nesl_session_meaning.specs.Step.{longest}
use Rattle.nesl_session_meaning.specs.Response.{Reply, no_memory}
use Rattle.nesl_session_meaning.specs.Solo.{Responds}
use Rattle.nesl_line.specs.declared.exchange.End.{End}
use Rattle.nesl_line.specs.declared.exchange.End.TheVariants.{Input, WriteFault}
use Rattle.nesl_line.specs.Exchange.{IsExchange, Streams}
use Rattle.nesl_line.specs.Steps.{Sent}
use Rattle.nesl_prompt.specs.Points.{Point, Obeyed, joined}
use Rattle.nesl_prompt.specs.Words.{IsBlank, is_own, is_part, is_quit, gives_lines}

-- a prompt before a form, a prompt within one, or neither
pub data IsSign (sign : List ℕ) : Type 0 where
  missing : sign ≡ [] → IsSign sign
  begins : sign ≡ codes "> " → IsSign sign
  goes_on : sign ≡ codes ". " → IsSign sign

-- what may follow a reply: a hint if it is a fault, and a prompt; neither where the style is plain
pub record IsBelow (plain : Bool) (fault : Option Fault) (more : List ℕ) : Type 0 where
  pub hint : List ℕ
  pub sign : List ℕ
  pub spelled : more ≡ hint ++ sign
  pub on_faults : fault ≡ None → hint ≡ []
  pub prompted : IsSign sign
  pub alone : plain ≡ true → more ≡ []

-- How a reply is written with this after it: whole, or with a note in place of its middle. The style isn't plain then.
pub data IsWritten (plain : Bool) (reply more text : List ℕ) : Type 0 where
  whole : text ≡ reply ++ more → IsWritten plain reply more text
  cut :
      (front left_out rest note : List ℕ) → plain ≡ false → reply ≡ front ++ left_out ++ rest
      → text ≡ front ++ note ++ rest ++ more → IsWritten plain reply more text

-- The text is the reply, with what may follow it.
pub record IsReplyText (plain : Bool) (reply : Reply) (text : List ℕ) : Type 0 where
  pub more : List ℕ
  pub written : IsWritten plain reply.bytes more text
  pub below : IsBelow plain reply.fault more

-- A form may go on after this line. The line doesn't end in `\`, and the form with it isn't longer than a session
-- accepts.
pub record GoesOn (form line : List ℕ) : Type 0 where
  pub no_part : is_part line ≡ false
  pub short : length (joined form line) ≤ longest

-- A form ends with this line. In a plain style it doesn't end with a blank line after others, unless it is longer with
-- it than a session accepts.
abbrev pub MayEnd : (plain : Bool) → (form line : List ℕ) → Type 0
MayEnd plain form line =
    plain ≡ true → form ≢ [] → is_part line ≡ false → IsBlank line → longest < length (joined form line)

-- What becomes of a line of a form. Either the form goes on, and at most a prompt is written; or it ends, and the
-- session's reply is written. Where memory runs out, `fault memory` is written, and the form is as it was before the
-- line.
pub data TakesLine (plain : Bool) (point : Point) (line text : List ℕ) (point' : Point) : Type 0 where
  gathers :
      GoesOn point.form line → point'.form ≡ joined point.form line → point'.log ≡ point.log
      → (plain ≡ true → text ≡ []) → TakesLine plain point line text point'
  answers :
      (reply : Reply) → MayEnd plain point.form line → Responds point.log (joined point.form line) reply point'.log
      → point'.form ≡ [] → IsReplyText plain reply text → TakesLine plain point line text point'
  runs_out :
      point'.form ≡ point.form → point'.log ≡ point.log → IsReplyText plain no_memory text
      → TakesLine plain point line text point'

-- One line at the prompt. While no form is unfinished, it may be one of the prompt's own words; only `:load` and
-- `:type` pass lines to the session. It may also be blank, and then at most a prompt is written. Any other line is part
-- of a form.
pub data Turn (plain : Bool) (point : Point) (line text : List ℕ) (point' : Point) : Type 0 where
  own :
      point.form ≡ [] → is_own line ≡ true → Obeyed (gives_lines line) point.log point'.log → point'.form ≡ []
      → Turn plain point line text point'
  waits :
      point.form ≡ [] → IsBlank line → point'.form ≡ [] → point'.log ≡ point.log → (plain ≡ true → text ≡ [])
      → Turn plain point line text point'
  takes :
      (point.form ≡ [] → is_own line ≡ false) → TakesLine plain point line text point'
      → Turn plain point line text point'

-- these lines were read one after another, and these texts were written for them
abbrev pub Conversed : Bool → Point → (lines texts : List (List ℕ)) → Point → Type 0
Conversed plain point [] [] point' = point' ≡ point
Conversed plain point (line ∷ lines) (text ∷ texts) point' =
    (mid : Point) × Turn plain point line text mid × Conversed plain mid lines texts point'
Conversed plain point [] (text ∷ texts) point' = ⊥
Conversed plain point (line ∷ lines) [] point' = ⊥

-- the last of these lines is `:quit`
abbrev pub EndsWithQuit : List (List ℕ) → Type 0
EndsWithQuit lines =
    (before : List (List ℕ)) × (last : List ℕ) × (lines ≡ before ++ last ∷ []) × (is_quit last ≡ true)

-- After the last line: at the end of input, the session answers an unfinished form, and its reply is written. `well` is
-- whether everything could be written.
pub data Rests
    (plain : Bool) (end : End) (point : Point) (log : Log) (held held' : Option (List ℕ)) (well : Bool) : Type 0 where
  silence :
      (tail : List ℕ) → (end ≡ Input → point.form ≡ []) → log ≡ point.log → Sent held held' tail true → well ≡ true
      → (plain ≡ true → tail ≡ []) → Rests plain end point log held held' well
  cut_off :
      (tail : List ℕ) → log ≡ point.log → Sent held held' tail false → well ≡ false → (plain ≡ true → tail ≡ [])
      → Rests plain end point log held held' well
  last_form :
      (mid : Option (List ℕ)) (tail text : List ℕ) (reply : Reply) → point.form ≢ [] → Sent held mid tail true
      → (plain ≡ true → tail ≡ []) → Responds point.log point.form reply log → IsReplyText plain reply text
      → Sent mid held' text well → Rests plain end point log held held' well

-- A conversation of `count` lines over these streams that ended in this way. The session was `log` and then `log'`. A
-- greeting comes before the first line. Only after `:quit` are lines left that nobody heard.
pub data IsPrompt (plain : Bool) (log log' : Log) (end : End) (count : ℕ) (streams : Streams) : Type 0 where
  unheard :
      (greeting : List ℕ) → end ≡ WriteFault → count ≡ 0 → streams.left_after ≡ streams.left → log' ≡ log
      → Sent streams.held streams.held_after greeting false → (plain ≡ true → greeting ≡ [])
      → IsPrompt plain log log' end count streams
  heard :
      (greeting : List ℕ) (begun sent : Option (List ℕ)) (over : Bool) (ended : End) (point : Point) (well : Bool)
      → Sent streams.held begun greeting true → (plain ≡ true → greeting ≡ [])
      → IsExchange (λ lines texts. Conversed plain (record { form = []; log = log }) lines texts point
      × (over ≡ true → EndsWithQuit lines)) over ended count
      (record streams { held = begun; held_after = sent })
      → Rests plain ended point log' sent streams.held_after well → end ≡ (if well then ended else WriteFault)
      → IsPrompt plain log log' end count streams
