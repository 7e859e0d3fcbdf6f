-- What the steps of a keeper hand on.
use Rattle.std.specs.Prelude.{◌≡◌, ◌≢◌, ℕ, List, [], ◌∷◌}
use Rattle.nesl_session_meaning.specs.State.{State, Log, empty_log}
use Rattle.nesl_session_meaning.specs.Response.{Reply}
use Rattle.nesl_session_meaning.specs.Solo.{Replays, Responds, SessionAnswers}
use Rattle.nesl_keep.specs.Device.{Only, LeavesOnly}
use Rattle.nesl_keep.specs.Scroll.{kept, IsSettled}
use Rattle.nesl_keep.specs.declared.scroll.Scroll.{Scroll}
use Rattle.nesl_line.specs.declared.keeper.Mark.{Mark}
use Rattle.nesl_line.specs.Keeping.{MarkOf}
use Rattle.nesl_keeper.specs.Files.{rows_of, with_rows, StandsFor, StandsForEither}

-- a file was opened, and its lines are those of this session
pub record IsFound
    {D : Type 0} (seen : D → List ℕ) (may_leave : D → List ℕ → Type 0) (moment : D → ℕ)
    (left_since : D → ℕ → List ℕ → Type 0) (scroll : Scroll D) (session : Log) : Type 0 where
  pub settled : IsSettled seen may_leave scroll
  pub rows : kept (seen scroll.device) ≡ rows_of session
  pub opened : D
  pub rests : Only (seen opened) (may_leave opened)
  pub stood : StandsFor session (seen opened)
  pub left : LeavesOnly moment left_since opened scroll.device (StandsForEither session session)

-- a session that may replace one that has got no line yet
pub record IsRestored (was is : Log) : Type 0 where
  pub none : was ≡ empty_log is.limits
  pub limits : is.limits ≡ was.limits
  pub replayed : (s : State) × Replays is s

-- a session was kept in the file, had this mark, and then got a line
pub record WasKept (old : Log) (was : Mark) (line : List ℕ) (reply : Reply) (new : Log) (file : List ℕ) : Type 0 where
  pub rows : kept file ≡ rows_of old
  pub mark : MarkOf was old
  pub responds : Responds old line reply new

-- a session answers a line, and doesn't store it as one more
pub record IsUnstored (old : Log) (line : List ℕ) (new : Log) : Type 0 where
  pub reply : Reply
  pub answered : SessionAnswers old (line ∷ []) (reply ∷ []) new
  pub other : new ≢ with_rows old (line ∷ [])
