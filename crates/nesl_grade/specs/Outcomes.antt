-- What the outcome of a test says.
use Rattle.std.specs.Prelude.{◌≡◌, ◌<◌, ◌≤◌, ℕ, List, [], ◌∷◌, ◌++◌, IfSome, All}
use Rattle.std.specs.Prelude.{codes, map, length, take, slice_index}
use Rattle.nesl_exercise.specs.declared.bound.Op.{Op}
use Rattle.nesl_exercise.specs.declared.measure.Measure.{Measure}
use Rattle.nesl_exercise.specs.declared.outcome.Outcome.{Outcome}
use Rattle.nesl_exercise.specs.declared.outcome.Outcome.TheVariants.{Passed, Other, Over, Refused, Unbounded}
use Rattle.nesl_exercise.specs.declared.outcome.Point.{Point}
use Rattle.nesl_exercise.specs.Bounds.{Computes}
use Rattle.nesl_grade.specs.declared.examined.Examined.{Examined}
use Rattle.nesl_grade.specs.Lines.{line_at, line_of}
use Rattle.nesl_grade.specs.Graded.{IsReplyAfter, IsCostAt, SayTheSame, Says, measured}

-- the lines that were given
abbrev pub given_of : Examined → List (List ℕ)
given_of s = map (λ line. line.items) s.given.items

-- the lines that were given, and then those of the submission
abbrev pub said_of : Examined → List (List ℕ)
said_of s = map (λ line. line.items) s.lines.items

-- Of a test of a value. It passes if the expression and the wanted one get the same value of the same type, and the
-- type is written so. The wanted one is evaluated after what is given alone. Otherwise the outcome has both replies.
abbrev pub TellsValue : Examined → (exp wanted ty : List ℕ) → Outcome → Type 0
TellsValue s exp wanted ty Passed = SayTheSame s.limits (said_of s) (given_of s) (line_of exp) (line_of wanted) ty
TellsValue s exp wanted ty (Other got want) =
    IsReplyAfter s.limits (said_of s) (line_of exp) got.items
    × IsReplyAfter s.limits (given_of s) (line_of wanted) want.items
TellsValue s exp wanted ty outcome = ⊥

-- a reply that is a fault of this name
abbrev pub IsFaultNamed : (name reply : List ℕ) → Type 0
IsFaultNamed name reply = (rest : List ℕ) × (reply ≡ codes "fault " ++ (name ++ (codes " " ++ rest)))

-- Of a test of a fault. It passes if the reply is a fault of this name. Otherwise the outcome has the reply, which is
-- none.
abbrev pub TellsFault : Examined → (exp name : List ℕ) → Outcome → Type 0
TellsFault s exp name Passed =
    (reply : List ℕ) × IsReplyAfter s.limits (said_of s) (line_of exp) reply × IsFaultNamed name reply
TellsFault s exp name (Other got want) =
    IsReplyAfter s.limits (said_of s) (line_of exp) got.items × ¬ (IsFaultNamed name got.items) × (want.items ≡ name)
TellsFault s exp name outcome = ⊥

-- the cost at n is within the bound there
abbrev pub IsWithin : Examined → List ℕ → Measure → List Op → ℕ → Type 0
IsWithin s exp measure ops n =
    (cost : ℕ) × (bound : ℕ) × IsCostAt s.limits (said_of s) exp n measure ops cost bound × (cost ≤ bound)

-- at n the cost isn't within the bound: it is above it, or there is no cost or no bound
abbrev pub TellsOver : Examined → List ℕ → Measure → List Op → ℕ → Outcome → Type 0
TellsOver s exp measure ops n (Over m cost bound) =
    (m ≡ n) × IsCostAt s.limits (said_of s) exp n measure ops cost bound × (bound < cost)
TellsOver s exp measure ops n (Refused m got) =
    (m ≡ n) × IsReplyAfter s.limits (said_of s) (line_at exp n) got.items
TellsOver s exp measure ops n (Unbounded m fault) = m ≡ n
TellsOver s exp measure ops n outcome = ⊥

-- of a test at one n
abbrev pub TellsAt : Examined → List ℕ → Measure → List Op → ℕ → Outcome → Type 0
TellsAt s exp measure ops n Passed = IsWithin s exp measure ops n
TellsAt s exp measure ops n outcome = TellsOver s exp measure ops n outcome

-- the first n of a row at which the cost isn't within the bound
abbrev pub TellsFirst : Examined → List ℕ → Measure → List Op → List ℕ → Outcome → Type 0
TellsFirst s exp measure ops row outcome =
    (i : ℕ) × (i < length row) × All (IsWithin s exp measure ops) (take i row)
    × TellsOver s exp measure ops (slice_index row i) outcome

-- of a test at all n of a row
abbrev pub TellsRow : Examined → List ℕ → Measure → List Op → List ℕ → Outcome → Type 0
TellsRow s exp measure ops row Passed = All (IsWithin s exp measure ops) row
TellsRow s exp measure ops row outcome = TellsFirst s exp measure ops row outcome

-- The point of a curve: the cost is that of the reply at its n, and the bound, if there is one, is the exact one.
pub record IsMeasuredAt (s : Examined) (exp : List ℕ) (measure : Measure) (ops : List Op) (point : Point) : Type 0 where
  pub reply : List ℕ
  pub replied : IsReplyAfter s.limits (said_of s) (line_at exp point.n) reply
  pub front : List ℕ
  pub work : ℕ
  pub depth : ℕ
  pub says : Says reply front work depth
  pub is_cost : point.cost ≡ measured measure work depth
  pub computes : IfSome point.bound (λ bound. Computes ops point.n [] (bound ∷ []))
