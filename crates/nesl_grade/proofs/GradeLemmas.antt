-- Outcomes of one more test.
use Rattle.std.proofs.Common.{◌≡◌, ℕ, ◌+◌, ◌<◌, List, [], ◌∷◌, ◌++◌, length, take, get_or, sym, subst}
use Rattle.std.proofs.lemmas.List.{take_more}
use Rattle.nesl_exercise.specs.declared.outcome.Outcome.{Outcome}
use Rattle.nesl_grade.specs.declared.examined.Examined.{Examined}
use Rattle.nesl_exercise.specs.declared.test.Test.{Test}
use Rattle.nesl_grade.specs.Grades.{Tells, TellsEach}

tells_more : (s : Examined) (ts : List Test) (os : List Outcome) (t : Test) (o : Outcome)
    → TellsEach s ts os → Tells s t.check o → TellsEach s (ts ++ t ∷ []) (os ++ o ∷ [])
tells_more s [] [] t o h k = (k, tt)
tells_more s [] (x ∷ os) t o h k = absurd h
tells_more s (y ∷ ts) [] t o h k = absurd h
tells_more s (y ∷ ts) (x ∷ os) t o h k = (h.0, tells_more s ts os t o h.1 k)

pub tells_next : (s : Examined) (ts : List Test) (i : ℕ) (d : Test) (os : List Outcome) (o : Outcome)
    → i < length ts → TellsEach s (take i ts) os → Tells s (get_or ts i d).check o
    → TellsEach s (take (i + 1) ts) (os ++ o ∷ [])
tells_next s ts i d os o lt h k =
    subst (λ (xs : List Test). TellsEach s xs (os ++ o ∷ [])) (sym (take_more ts i d lt))
    (tells_more s (take i ts) os (get_or ts i d) o h k)
