-- What holds while one connection's lines are heard.
use Rattle.std.specs.Prelude.{◌≡◌, ℕ, ◌+◌, List, [], ◌∷◌, ◌++◌, Option, Some, None, Bool, true, false}
use Rattle.std.specs.Fn.{Shared}
use denote.Ref.{Bor}
use Rattle.nesl_session_meaning.specs.declared.limits.Limits.{Limits}
use Rattle.nesl_session_meaning.specs.State.{Log, recorded_lines}
use Rattle.nesl_session_meaning.specs.Response.{Reply}
use Rattle.nesl_session_meaning.specs.Solo.{Responds}
use Rattle.nesl_house.specs.declared.lease.Receipt.{Receipt}
use Rattle.nesl_house.specs.Register.{Leased}
use Rattle.nesl_line.specs.declared.guest.Stage.{Stage}
use Rattle.nesl_line.specs.declared.guest.Stage.TheVariants.{Waiting, Seated, Lost, Over}
use Rattle.nesl_line.specs.declared.serve.Served.{Served}
use Rattle.nesl_line.specs.Exchange.{Hearing, IsExchange, Streams}
use Rattle.nesl_line.specs.Guest.{IsHeard, Visits}
use Rattle.nesl_line.specs.Keeping.{KeptSince, LosesLine}

-- nothing more is heard
abbrev pub is_over : Stage → Bool
is_over Waiting = false
is_over (Seated lease) = false
is_over (Lost lease) = true
is_over Over = true

-- a user who is seated has the session that is kept
abbrev pub IsKeptAt : {K : Type 0} → (K → Log → Type 0) → K → Stage → Type 0
IsKeptAt keeps now (Seated lease) = keeps now lease.seat.session
IsKeptAt keeps now stage = Unit {0}

-- a user who was seated gets the receipt
abbrev pub HasReceipt : Stage → Option Receipt → Type 0
HasReceipt (Seated lease) (Some receipt) =
    (receipt.place ≡ lease.seat.place) × (receipt.recorded + lease.counted ≡ recorded_lines lease.seat.session)
HasReceipt (Seated lease) None = ⊥
HasReceipt (Lost lease) (Some receipt) =
    (receipt.place ≡ lease.seat.place) × (receipt.recorded + lease.counted ≡ recorded_lines lease.seat.session)
HasReceipt (Lost lease) None = ⊥
HasReceipt Waiting receipt = receipt ≡ None
HasReceipt Over receipt = receipt ≡ None

module _ {K : Type 0} (keeps : K → Log → Type 0) (leaves : K → K → Log → Log → Type 0) (has_failed : K → Type 0) where
  module _ (start now : K) (roster : List (List ℕ)) (limits : Limits) where
    -- a user was seated, and these lines were heard and kept since
    abbrev pub IsSeated : Leased → Hearing
    IsSeated lease lines texts =
        (had : Log) × (recorded : ℕ) × (lease.counted ≡ recorded_lines had)
        × (v : Visits roster limits lease.seat.place recorded had lease.seat.session lines texts)
        × KeptSince keeps leaves start now had v.script lease.seat.session

    -- a user was seated, and the last line was lost
    pub record HasLost (lease : Leased) (lines texts : List (List ℕ)) : Type 0 where
      pub had : Log
      pub is : Log
      pub recorded : ℕ
      pub front : List (List ℕ)
      pub told : List (List ℕ)
      pub line : List ℕ
      pub came : lines ≡ front ++ line ∷ []
      pub got : texts ≡ told ++ [] ∷ []
      pub visits : Visits roster limits lease.seat.place recorded had is front told
      pub loses : LosesLine keeps leaves start now had visits.script line lease.seat.session
      pub failed : has_failed now

    -- what was heard, by the stage of a guest, whose keeper was `start` at first
    abbrev pub HeardAt : Stage → Hearing
    HeardAt Waiting lines texts = (lines ≡ []) × (texts ≡ []) × (now ≡ start)
    HeardAt (Seated lease) lines texts = IsSeated lease lines texts
    HeardAt (Lost lease) lines texts = HasLost lease lines texts
    HeardAt Over lines texts = IsHeard roster limits None true lines texts

    -- what a connection did over these streams, by the stage that its guest had reached
    pub record Attends (served : Served) (streams : Streams) : Type 0 where
      pub stage : Stage
      pub receipt : HasReceipt stage served.receipt
      pub exchanged : IsExchange (HeardAt stage) (is_over stage) served.end served.lines streams

-- a line was said to a session that is taken out: this is the session afterwards, and its answer
pub record SessionAnswersLine (lease : Leased) (line : List ℕ) (after : Leased × Reply) : Type 0 where
  pub answers : Responds lease.seat.session line after.1 after.0.seat.session
  pub place : after.0.seat.place ≡ lease.seat.place
  pub counted : after.0.counted ≡ lease.counted

-- calls of `f` say lines to sessions that are taken out
pub record Speaks
    {F : Type 0} (calls : Shared F (Leased × (Bor (List ℕ) × Unit {0})) (Leased × Reply)) (f : F) : Type 0 where
  pub may : (lease : Leased) (line : Bor (List ℕ)) → calls.pre f (lease, (line, tt))
  pub says :
      (lease : Leased) (line : Bor (List ℕ)) (after : Leased × Reply)
      → calls.post f (lease, (line, tt)) after → SessionAnswersLine lease line.now after
