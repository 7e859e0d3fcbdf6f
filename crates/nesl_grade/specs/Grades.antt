-- What the outcomes of a submission say.
use Rattle.std.specs.Prelude.{◌≡◌, ℕ, List, [], ◌∷◌, ◌++◌, drop, map, unwrap_or, IfSome}
use Rattle.nesl_session_meaning.specs.declared.limits.Limits.{Limits}
use Rattle.nesl_forms.specs.Forms.{lines_of}
use Rattle.nesl_exercise.specs.declared.outcome.Outcome.{Outcome}
use Rattle.nesl_grade.specs.declared.examined.Examined.{Examined}
use Rattle.nesl_grade.specs.Outcomes.{TellsValue, TellsFault, TellsRow, given_of, said_of}
use Rattle.nesl_gradebook.specs.declared.book.Submitted.{Submitted}
use Rattle.nesl_gradebook.specs.declared.book.Submitted.TheVariants.{Text, Kept}
use Rattle.nesl_gradebook.specs.declared.book.Submission.{Submission}
use Rattle.nesl_keep.specs.Scroll.{kept}
use Rattle.nesl_exercise.specs.declared.exercise.Exercise.{Exercise}
use Rattle.nesl_exercise.specs.declared.limits.OwnLimits.{OwnLimits}
use Rattle.nesl_exercise.specs.declared.test.Check.{Check}
use Rattle.nesl_exercise.specs.declared.test.Check.TheVariants.{Value, Fault, Cost, Feature}
use Rattle.nesl_exercise.specs.declared.test.Test.{Test}

-- the usual limits, where an exercise sets none of its own
abbrev pub limits_for : Limits → OwnLimits → Limits
limits_for usual own = record {
  line_work = unwrap_or own.line_work usual.line_work;
  session_work = unwrap_or own.session_work usual.session_work;
  elements = unwrap_or own.elements usual.elements;
  transcript_lines = usual.transcript_lines;
  transcript_bytes = usual.transcript_bytes;
}

-- the lines of a submission: the forms of its text, or the lines of a kept session
abbrev pub forms_of : Submitted → List (List ℕ)
forms_of (Text text) = lines_of text.items
forms_of (Kept lines) = map (λ line. line.items) lines.items

-- the lines of a kept session are those of its file after the first one, which is the head
abbrev pub IsKept : (file : List ℕ) → List (List ℕ) → Type 0
IsKept file lines = lines ≡ drop 1 (kept file)

-- before each test a session gets what the exercise gives, and then the lines of the submission
pub record IsExamined (usual : Limits) (exercise : Exercise) (submission : Submitted) (s : Examined) : Type 0 where
  pub limits : s.limits ≡ limits_for usual exercise.limits
  pub given : given_of s ≡ lines_of exercise.given.items
  pub lines : said_of s ≡ lines_of exercise.given.items ++ forms_of submission

-- what the outcome of a test says
abbrev pub Tells : Examined → Check → Outcome → Type 0
Tells s (Value exp expected ty) outcome = TellsValue s exp.items expected.items ty.items outcome
Tells s (Fault exp name) outcome = TellsFault s exp.items name.items outcome
Tells s (Cost exp row measure bound) outcome = TellsRow s exp.items measure bound.items row.items outcome
Tells s (Feature _ feature) outcome = Unit {0}

-- each outcome is that of its test
abbrev pub TellsEach : Examined → List Test → List Outcome → Type 0
TellsEach s [] [] = Unit {0}
TellsEach s (t ∷ ts) (o ∷ os) = Tells s t.check o × TellsEach s ts os
TellsEach s [] (o ∷ os) = ⊥
TellsEach s (t ∷ ts) [] = ⊥

-- A submission, graded: its name and its forms are as they were. If it has a grade, each outcome is that of its test,
-- in a session of its own, which gets what the exercise gives, then the lines of the submission, then that of the test.
pub record IsGraded (usual : Limits) (exercise : Exercise) (old new : Submission) : Type 0 where
  pub name : new.name.items ≡ old.name.items
  pub forms : new.forms ≡ old.forms
  pub outcomes : IfSome new.graded (λ graded. (s : Examined) × IsExamined usual exercise old.forms s
      × TellsEach s exercise.tests.items graded.outcomes.items)
