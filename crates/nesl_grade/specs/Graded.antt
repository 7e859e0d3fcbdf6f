-- Which replies are graded, and what a test says of them.
use Rattle.std.specs.Prelude.{◌≡◌, ◌⊎◌, ℕ, List, [], ◌∷◌, ◌++◌, codes, decimal, map}
use Rattle.std.specs.Prelude.{Option, Some, None}
use Rattle.nesl_session_meaning.specs.declared.limits.Limits.{Limits}
use Rattle.nesl_session_meaning.specs.State.{Log, empty_log}
use Rattle.nesl_session_meaning.specs.Response.{Reply}
use Rattle.nesl_session_meaning.specs.Solo.{SessionAnswers}
use Rattle.nesl_exercise.specs.declared.bound.Op.{Op}
use Rattle.nesl_exercise.specs.declared.measure.Measure.{Measure}
use Rattle.nesl_exercise.specs.declared.measure.Measure.TheVariants.{Work, Depth}
use Rattle.nesl_exercise.specs.Bounds.{Computes}
use Rattle.nesl_grade.specs.Lines.{line_at}

-- the session is one that got these lines, one after another, and no others
pub record HasSaid (limits : Limits) (lines : List (List ℕ)) (log : Log) : Type 0 where
  pub replies : List Reply
  pub answers : SessionAnswers (empty_log limits) lines replies log

-- the reply is that to this line, of a session that got these lines before it and no others
pub record IsReplyAfter (limits : Limits) (lines : List (List ℕ)) (line : List ℕ) (reply : List ℕ) : Type 0 where
  pub before : Log
  pub said : HasSaid limits lines before
  pub whole : Reply
  pub after : Log
  pub answers : SessionAnswers before (line ∷ []) (whole ∷ []) after
  pub bytes : whole.bytes ≡ reply

-- what a session writes at the end of a reply with a value
abbrev pub cost_text : (work depth : ℕ) → List ℕ
cost_text work depth = codes " (work " ++ decimal work ++ codes ", depth " ++ decimal depth ++ codes ")\n"

-- the reply says this, at this cost
abbrev pub Says : (reply front : List ℕ) → (work depth : ℕ) → Type 0
Says reply front work depth = reply ≡ front ++ cost_text work depth

abbrev pub measured : Measure → ℕ → ℕ → ℕ
measured Work work depth = work
measured Depth work depth = depth

-- At this n the test's line gets a reply whose cost is `cost`, and the bound is `bound`: both are exact.
pub record IsCostAt
    (limits : Limits) (lines : List (List ℕ)) (exp : List ℕ) (n : ℕ) (measure : Measure) (ops : List Op)
    (cost bound : ℕ)
    : Type 0 where
  pub reply : List ℕ
  pub replied : IsReplyAfter limits lines (line_at exp n) reply
  pub front : List ℕ
  pub work : ℕ
  pub depth : ℕ
  pub says : Says reply front work depth
  pub is_cost : cost ≡ measured measure work depth
  pub computes : Computes ops n [] (bound ∷ [])

-- what is said ends with this type, unless there is none
abbrev pub HasType : (front ty : List ℕ) → Type 0
HasType front ty = (ty ≡ []) ⊎ ((value : List ℕ) × (front ≡ value ++ codes " : " ++ ty))

-- two lines get the same value of the same type, which is written so: their replies differ in the cost alone
pub record SayTheSame (limits : Limits) (lines others : List (List ℕ)) (line other ty : List ℕ) : Type 0 where
  pub reply : List ℕ
  pub replied : IsReplyAfter limits lines line reply
  pub wanted : List ℕ
  pub wanted_replied : IsReplyAfter limits others other wanted
  pub front : List ℕ
  pub work : ℕ
  pub depth : ℕ
  pub says : Says reply front work depth
  pub wanted_work : ℕ
  pub wanted_depth : ℕ
  pub wanted_says : Says wanted front wanted_work wanted_depth
  pub typed : HasType front ty
