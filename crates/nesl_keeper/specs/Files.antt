-- What the file of a session is, and which session it stands for.
use Rattle.std.specs.Prelude.{◌≡◌, ◌≢◌, ◌≤◌, ◌⊎◌, ℕ, List, [], ◌∷◌, ◌++◌, codes, decimal}
use Rattle.nesl_session_meaning.specs.declared.limits.Limits.{Limits}
use Rattle.nesl_session_meaning.specs.State.{Log, empty_log}
use Rattle.nesl_session_meaning.specs.Step.{most_recorded}
use Rattle.nesl_keep.specs.Device.{Only, LeavesOnly}
use Rattle.nesl_keep.specs.Scroll.{kept, IsSettled}
use Rattle.nesl_keeper.specs.declared.keeper.Stage.{Stage}
use Rattle.nesl_keeper.specs.declared.keeper.Stage.TheVariants.{Away, Kept, Failed}

-- the first line of a file: the version, the work that was left at the last reset, and the lines recorded until then
abbrev pub head_text : (base cleared : ℕ) → List ℕ
head_text base cleared = codes "pazkindu 1 " ++ decimal base ++ codes " " ++ decimal cleared

-- no session with these limits has this head
abbrev pub IsNoHead : Limits → List ℕ → Type 0
IsNoHead limits line =
    (base cleared : ℕ) → base ≤ limits.session_work → cleared ≤ most_recorded → line ≢ head_text base cleared

-- the lines of a session's file: its head, and the lines that the session has stored since the last reset
abbrev pub rows_of : Log → List (List ℕ)
rows_of log = head_text log.base log.cleared ∷ log.lines

-- a session that has stored these lines too
abbrev pub with_rows : Log → List (List ℕ) → Log
with_rows log lines = record log { lines = log.lines ++ lines }

-- A file stands for a session by its lines. A file without a line, and one that isn't there, stand for the session that
-- has got no line yet.
pub data StandsFor (log : Log) (file : List ℕ) : Type 0 where
  by_lines : kept file ≡ rows_of log → StandsFor log file
  by_none : kept file ≡ [] → log ≡ empty_log log.limits → StandsFor log file

-- the file stands for one of two sessions
abbrev pub StandsForEither : (was is : Log) → List ℕ → Type 0
StandsForEither was is file = StandsFor was file ⊎ StandsFor is file

module _ {D : Type 0} (seen : D → List ℕ) (may_leave : D → List ℕ → Type 0) where
  -- the file has the lines of this session, and all of it is on the disk
  abbrev pub Keeps : Stage D → Log → Type 0
  Keeps (Kept scroll) log = IsSettled seen may_leave scroll × (kept (seen scroll.device) ≡ rows_of log)
  Keeps stage log = ⊥

module _
    {D : Type 0} (seen : D → List ℕ) (may_leave : D → List ℕ → Type 0) (moment : D → ℕ)
    (left_since : D → ℕ → List ℕ → Type 0) where
  -- A crash at any moment between two stages leaves a file that stands for one of these sessions. When a file is
  -- opened, all of it is on the disk.
  abbrev pub Leaves : (old new : Stage D) (was is : Log) → Type 0
  Leaves (Kept old) (Kept new) was is = LeavesOnly moment left_since old.device new.device (StandsForEither was is)
  Leaves (Kept old) (Failed new) was is = LeavesOnly moment left_since old.device new.device (StandsForEither was is)
  Leaves Away (Kept new) was is =
      (opened : D) × Only (seen opened) (may_leave opened) × StandsFor was (seen opened)
      × LeavesOnly moment left_since opened new.device (StandsForEither was is)
  Leaves old new was is = ⊥

-- the disk has failed, or memory has run out
abbrev pub HasFailed : {D : Type 0} → Stage D → Type 0
HasFailed (Failed scroll) = Unit {0}
HasFailed stage = ⊥
