-- What is read and written while lines come in, are heard, and get replies. Any hearer will do.
use Rattle.std.specs.Prelude.{◌≡◌, ℕ, ◌+◌, ◌^◌, ◌≤◌, ◌⊎◌, List, [], ◌∷◌, ◌++◌, Option, Bool, true, false, length}
use Rattle.std.specs.Prelude.{flat_map}
use Rattle.std.specs.Io.KnownBytes.{Consumes, Appends, IsAtEnd}
use Rattle.nesl_line.specs.declared.exchange.End.{End}
use Rattle.nesl_line.specs.declared.exchange.End.TheVariants.{Input, ReadFault, WriteFault, NoMemory}
use Rattle.nesl_line.specs.Lines.{AllLines, WholeLines}
use Rattle.nesl_line.specs.Tally.{ReadTally, WriteTally, Rose, risen_by, flushed_by}

-- these lines were heard, and got these texts as replies
abbrev pub Hearing : Type 1
Hearing = (lines texts : List (List ℕ)) → Type 0

-- The bytes of a reader and of a writer, before and after an exchange; `None` where they aren't known.
pub record Streams : Type 0 where
  -- what was left to read, and what is left to read afterwards
  pub left : Option (List ℕ)
  pub left_after : Option (List ℕ)
  -- what was written before, and all that was written afterwards
  pub held : Option (List ℕ)
  pub held_after : Option (List ℕ)

-- what passed in an exchange
pub record Exchanged : Type 0 where
  -- the bytes that were read
  pub read : List ℕ
  -- the lines that were heard
  pub lines : List (List ℕ)
  -- the text replied to each of these lines
  pub texts : List (List ℕ)
  -- the bytes that were written
  pub written : List ℕ

-- the answers one after the other
abbrev pub text_of : List (List ℕ) → List ℕ
text_of texts = flat_map (λ text. text) texts

-- all answers but the last were written, and a front of the last
pub record WrittenInPart (texts : List (List ℕ)) (written : List ℕ) : Type 0 where
  pub before : List (List ℕ)
  pub front : List ℕ
  pub lost : List ℕ
  pub all : texts ≡ before ++ (front ++ lost) ∷ []
  pub sent : written ≡ text_of before ++ front

-- The first of the lines that have come when this was read and this is left. A line has come with its LF. At the end of
-- input the rest has come too.
pub data AreFirst (read : List ℕ) (left : Option (List ℕ)) (lines : List (List ℕ)) : Type 0 where
  by_their_feeds : (more : List (List ℕ)) → WholeLines read (lines ++ more) → AreFirst read left lines
  by_the_end : (more : List (List ℕ)) → IsAtEnd left → AllLines read (lines ++ more) → AreFirst read left lines

-- Which of the lines that were read were heard, and what of the answers was written. This depends on how the exchange
-- ended, on whether nothing more was heard, and on what is left to read.
abbrev pub Ended : End → (over : Bool) → (left : Option (List ℕ)) → Exchanged → Type 0
-- the first of the lines that have come, and all answers
Ended Input true left x = AreFirst x.read left x.lines × (x.written ≡ text_of x.texts)
-- all lines of all bytes, and all answers
Ended Input false left x = IsAtEnd left × AllLines x.read x.lines × (x.written ≡ text_of x.texts)
-- the lines whose LF came, and all answers
Ended ReadFault over left x = WholeLines x.read x.lines × (x.written ≡ text_of x.texts)
-- the first of the lines that have come, and all answers but the last
Ended WriteFault over left x = AreFirst x.read left x.lines × WrittenInPart x.texts x.written
-- nothing was read or written
Ended NoMemory over left x = (x.read ≡ []) × (x.lines ≡ []) × (x.written ≡ [])

-- An exchange over these streams that ended so when `count` lines were answered. `Heard` relates the lines to the texts
-- replied to them, and `over` is whether nothing more was heard.
pub record IsExchange (Heard : Hearing) (over : Bool) (end : End) (count : ℕ) (streams : Streams) : Type 0 where
  pub passed : Exchanged
  pub consumed : Consumes streams.left streams.left_after passed.read
  pub appended : Appends streams.held streams.held_after passed.written
  pub heard : Heard passed.lines passed.texts
  pub ended : Ended end over streams.left_after passed
  pub counted : count ≡ length passed.lines

-- By how the exchange ended: the number of reads that were made, at most 2^32, and whether one failed.
abbrev pub ReadsTallied : End → ReadTally → ReadTally → Type 0
ReadsTallied NoMemory old new = new ≡ old
-- a read failed, or 2^32 reads were made
ReadsTallied ReadFault old new =
    (new.made ≤ old.made + 2 ^ 32) × (Rose old.failed new.failed ⊎ (new.made ≡ risen_by (2 ^ 32) old.made))
-- at the end of input, or after a write fault, no read failed
ReadsTallied end old new = (new.made ≤ old.made + 2 ^ 32) × (new.failed ≡ old.failed)

-- By how the exchange ended after `count` answers: each was flushed and no byte of them is unflushed, or something
-- failed.
abbrev pub WritesTallied : End → ℕ → WriteTally → WriteTally → Type 0
WritesTallied NoMemory count old new = new ≡ old
-- a write or a flush failed, or a write took no byte
WritesTallied WriteFault count old new = Rose old.failed new.failed ⊎ Rose old.stalled new.stalled
-- at the end of input, or after a read fault, all answers were flushed
WritesTallied end count old new = new ≡ flushed_by count old
