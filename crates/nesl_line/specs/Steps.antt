-- What the steps of the code keep, from which `IsExchange` follows.
use Rattle.std.specs.Prelude.{◌≡◌, ℕ, ◌≤◌, ◌⊎◌, List, [], ◌∷◌, ◌++◌, Option, Some, None, Bool, true, false}
use Rattle.std.specs.Prelude.{take, length, nat_lt, map}
use Rattle.std.specs.Bool.{MatchBool}
use Rattle.std.specs.List.{AllByRecursion}
use Rattle.std.specs.Io.KnownBytes.{Consumes, Appends}
use Rattle.nesl_house.specs.Script.{Event}
use Rattle.nesl_house.specs.Runs.{Account, Runs}
use Rattle.nesl_line.specs.declared.line.Line.{Line}
use Rattle.nesl_line.specs.declared.talk.Flow.{Flow}
use Rattle.nesl_line.specs.declared.talk.Flow.TheVariants.{On, Over, Broken}
use Rattle.nesl_line.specs.declared.talk.Talk.{Talk}
use Rattle.nesl_line.specs.Lines.{Splits, handed, most_handed, AllLines, WholeLines}
use Rattle.nesl_line.specs.Conversation.{Turn, HouseConversation}
use Rattle.nesl_line.specs.Tally.{WriteTally, Rose, risen_by, flushed_by}
use Rattle.nesl_line.specs.Exchange.{Hearing, text_of, WrittenInPart}
use Rattle.nesl_line.specs.Hinted.{WithHints, plain_front}

-- a prefix of the bytes was written, and all of them if it went well
pub record Sent (held held' : Option (List ℕ)) (bytes : List ℕ) (well : Bool) : Type 0 where
  pub front : List ℕ
  pub lost : List ℕ
  pub split : bytes ≡ front ++ lost
  pub all : well ≡ true → lost ≡ []
  pub appended : Appends held held' front

-- k bytes that were written
abbrev pub written_by : ℕ → WriteTally → WriteTally
written_by k tally = record tally { unflushed = risen_by k tally.unflushed }

-- a write or a flush failed, or a write took no byte
abbrev pub WriteFailed : WriteTally → WriteTally → Type 0
WriteFailed old new = Rose old.failed new.failed ⊎ Rose old.stalled new.stalled

-- if it went well, k bytes were written and nothing else; otherwise something failed
abbrev pub Wrote : Bool → ℕ → WriteTally → WriteTally → Type 0
Wrote well k old new = MatchBool well (new ≡ written_by k old) (WriteFailed old new)

-- if it went well, n answers were written and each was flushed, so that no byte of them is unflushed; otherwise
-- something failed
abbrev pub Flushed : Bool → ℕ → WriteTally → WriteTally → Type 0
Flushed well n old new = MatchBool well (new ≡ flushed_by n old) (WriteFailed old new)

-- what holds, by how an exchange goes on
abbrev pub By : Flow → (on over broken : Type 0) → Type 0
By On on over broken = on
By Over on over broken = over
By Broken on over broken = broken

-- whether the reply could be sent
abbrev pub is_sent : Flow → Bool
is_sent On = true
is_sent Over = true
is_sent Broken = false

-- the selected user; an empty name is nobody's
abbrev pub chosen : List ℕ → Option (List ℕ)
chosen [] = None
chosen (b ∷ bs) = Some (b ∷ bs)

-- no name of the house has more than this number of bytes
abbrev pub NamesFit : ℕ → List Account → Type 0
NamesFit room house = AllByRecursion (λ account. length account.name ≤ room) house

-- a house heard one line while `who` was selected, and this text is the reply
pub record TurnsHouse (house house' : List Account) (who who' : Option (List ℕ)) (line text : List ℕ) : Type 0 where
  pub events : List Event
  pub turn : Turn house who line text events who'
  pub runs : (start : List Account) (before : List Event) → Runs start before house →
      Runs start (before ++ events) house'

-- a conversation with a house, after which `who` is selected
abbrev pub TalkedTo : List Account → (lines texts : List (List ℕ)) → Option (List ℕ) → List Account → Type 0
TalkedTo house lines texts who house' = (talked : HouseConversation house lines texts house') × (talked.who ≡ who)

-- the same with hints below the answers
abbrev pub HintedTo : List Account → (lines texts : List (List ℕ)) → Option (List ℕ) → List Account → Type 0
HintedTo house lines texts who house' =
    WithHints plain_front (λ lines answers. TalkedTo house lines answers who house') lines texts

-- one line was heard, and its reply was sent
pub record Answered
    (Before After : Hearing) (line : List ℕ) (held held' : Option (List ℕ)) (well : Bool) : Type 0 where
  pub text : List ℕ
  pub heard : (lines texts : List (List ℕ)) → Before lines texts → After (lines ++ line ∷ []) (texts ++ text ∷ [])
  pub sent : Sent held held' text well

-- What has come in of a line: its first bytes, and whether there were more.
abbrev pub HasFront : Line → List ℕ → Type 0
HasFront line raw = (line.bytes.items ≡ take most_handed raw) × (line.is_longer ≡ nat_lt most_handed (length raw))

-- So far this was read, `count` of its lines were answered, and the answers were sent.
pub record Progress
    (Heard : Hearing) (read : List ℕ) (line : Line) (held held' : Option (List ℕ)) (count : ℕ) : Type 0 where
  pub whole : List (List ℕ)
  pub raw : List ℕ
  pub texts : List (List ℕ)
  pub splits : Splits read whole raw
  pub holds : HasFront line raw
  pub heard : Heard (map handed whole) texts
  pub appended : Appends held held' (text_of texts)
  pub counted : count ≡ length whole

-- all answers were written
abbrev pub WrittenWhole : List (List ℕ) → List ℕ → Type 0
WrittenWhole texts written = written ≡ text_of texts

-- This was read, and after `count` answers no more of its lines is answered. `Has` relates a text to its lines, and
-- `Written` relates the answers to what was written of them.
pub record Ceased
    (Has : List ℕ → List (List ℕ) → Type 0) (Written : List (List ℕ) → List ℕ → Type 0) (Heard : Hearing)
    (read : List ℕ) (held held' : Option (List ℕ)) (count : ℕ) : Type 0 where
  pub lines : List (List ℕ)
  pub more : List (List ℕ)
  pub texts : List (List ℕ)
  pub written : List ℕ
  pub heard : Heard lines texts
  pub are : Has read (lines ++ more)
  pub put : Written texts written
  pub appended : Appends held held' written
  pub counted : count ≡ length lines

-- All was read, and all lines were answered and the answers sent.
pub record Finished
    (Heard : Hearing) (read : List ℕ) (held held' : Option (List ℕ)) (count : ℕ) : Type 0 where
  pub lines : List (List ℕ)
  pub texts : List (List ℕ)
  pub heard : Heard lines texts
  pub are : AllLines read lines
  pub appended : Appends held held' (text_of texts)
  pub counted : count ≡ length lines

-- the same, with the fields of a `Talk`
abbrev pub Goes : Hearing → Talk → List ℕ → Option (List ℕ) → Option (List ℕ) → Type 0
Goes Heard talk read held held' = Progress Heard read talk.line held held' talk.lines

-- nothing more is heard
abbrev pub Halts : Hearing → Talk → List ℕ → Option (List ℕ) → Option (List ℕ) → Type 0
Halts Heard talk read held held' = Ceased WholeLines WrittenWhole Heard read held held' talk.lines

-- the last answer could not be sent
abbrev pub Stops
    : (List ℕ → List (List ℕ) → Type 0) → Hearing → Talk → List ℕ → Option (List ℕ) → Option (List ℕ) → Type 0
Stops Has Heard talk read held held' = Ceased Has WrittenInPart Heard read held held' talk.lines

abbrev pub Done : Hearing → Talk → List ℕ → Option (List ℕ) → Option (List ℕ) → Type 0
Done Heard talk read held held' = Finished Heard read held held' talk.lines

-- no byte of a line has come, and no line was answered
pub record IsFresh (talk : Talk) : Type 0 where
  pub empty : HasFront talk.line []
  pub none : talk.lines ≡ 0

-- the lines of what was read so far were answered
pub record SoFar (left left' held held' : Option (List ℕ)) (Heard : Hearing) (talk : Talk) : Type 0 where
  pub read : List ℕ
  pub consumed : Consumes left left' read
  pub progress : Goes Heard talk read held held'
