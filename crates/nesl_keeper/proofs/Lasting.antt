-- What a crash leaves while a session is taken up, and while a line is kept.
use Rattle.std.proofs.Common.{◌≡◌, ◌⊎◌, inl, inr, ⊎_elim, ℕ, List, [], ◌∷◌, ◌++◌, refl, sym, ap, ◌∙◌, subst}
use Rattle.nesl_session_meaning.specs.State.{Log, empty_log, recorded_lines}
use Rattle.nesl_house.specs.Register.{Leased}
use Rattle.nesl_line.specs.Keeping.{IsTakenUp}
use Rattle.nesl_keeper.specs.Steps.{IsRestored}
use Rattle.nesl_keep.specs.Scroll.{kept, IsBeforeOrAfter, IsBeforeOrAnew}
use Rattle.nesl_keeper.specs.Files as files
use Rattle.nesl_keeper.specs.Files.{head_text, rows_of, StandsFor, StandsForEither}

-- the file stands for the session before a line, or for the one after it
pub before_or_after : (was is : Log) (file line c : List ℕ) → kept file ≡ rows_of was → rows_of was ++ line ∷ [] ≡ rows_of is → IsBeforeOrAfter (kept file) line c → StandsForEither was is c
before_or_after was is file line c rows more left =
    ⊎_elim (λ old. inl (files.by_lines (old ∙ rows))) (λ new. inr (files.by_lines (new ∙ subst (λ (l : List (List ℕ)). l ++ line ∷ [] ≡ rows_of is) (sym rows) more))) left

-- the file stands for the session before a reset, or for the one after it
pub before_or_anew : (was is : Log) (file head c : List ℕ) → kept file ≡ rows_of was → head ∷ [] ≡ rows_of is → IsBeforeOrAnew (kept file) head c → StandsForEither was is c
before_or_anew was is file head c rows anew left =
    ⊎_elim (λ old. inl (files.by_lines (old ∙ rows))) (λ new. inr (files.by_lines (new ∙ anew))) left

-- a file without a line, into which a head is put
pub none_or_head : (is : Log) (file head c : List ℕ) → kept file ≡ [] → is ≡ empty_log is.limits → head ∷ [] ≡ rows_of is → IsBeforeOrAnew (kept file) head c → StandsForEither is is c
none_or_head is file head c none empty anew left =
    ⊎_elim (λ old. inl (files.by_none (old ∙ none) empty)) (λ new. inr (files.by_lines (new ∙ anew))) left

-- an empty session was replaced by one that was kept
pub taken_up : (was now : Leased) (session had : Log) → now ≡ record { seat = record { place = was.seat.place; session = session }; counted = recorded_lines session } → had ≡ was.seat.session → IsRestored had session → IsTakenUp was now
taken_up was now session had e h r =
    subst (IsTakenUp was) (sym e) (record { place = refl; limits = r.limits ∙ ap (λ (log : Log). log.limits) h; counted = refl; replayed = r.replayed })
