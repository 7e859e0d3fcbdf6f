-- Sessions that get one more line.
use Rattle.std.proofs.Common.{◌≡◌, ℕ, ◌+◌, ◌<◌, List, [], ◌∷◌, ◌++◌, length, take, get_or, map, refl, sym, subst}
use Rattle.std.proofs.lemmas.List.{map_more}
use Rattle.nesl_session_meaning.specs.declared.limits.Limits.{Limits}
use Rattle.nesl_session_meaning.specs.State.{State, Log, empty_log}
use Rattle.nesl_session_meaning.specs.Response.{Reply}
use Rattle.nesl_session_meaning.specs.Solo.{Replays, SessionAnswers}
use Rattle.nesl_session_meaning.specs.Laws.{GoesOn}
use Rattle.nesl_grade.specs.Graded.{HasSaid}

-- a new session
pub none_said : (limits : Limits) (log : Log) → log ≡ empty_log limits → ((state : State) × Replays log state) → HasSaid limits [] log
none_said limits log e h = subst (HasSaid limits []) (sym e) (record {
  replies = [];
  answers = record {
    before = h.0;
    after = h.0;
    starts = subst (λ (l : Log). Replays l h.0) e h.1;
    run = refl;
    ends = subst (λ (l : Log). Replays l h.0) e h.1;
    limits = refl;
  };
})

-- one more line
pub more_said : GoesOn → (limits : Limits) (lines : List (List ℕ)) (old new : Log) (line : List ℕ) (reply : Reply)
    → HasSaid limits lines old → SessionAnswers old (line ∷ []) (reply ∷ []) new → HasSaid limits (lines ++ line ∷ []) new
more_said law limits lines old new line reply h s = record {
  replies = h.replies ++ reply ∷ [];
  answers = law (empty_log limits) old new lines (line ∷ []) h.replies (reply ∷ []) h.answers s;
}

-- and one more of a list of lines
pub next_said : {A : Type 0} → GoesOn → (limits : Limits) (text : A → List ℕ) (lines : List A) (i : ℕ) (d : A) (old new : Log)
    → (line : List ℕ) (reply : Reply) → i < length lines → line ≡ text (get_or lines i d)
    → HasSaid limits (map text (take i lines)) old → SessionAnswers old (line ∷ []) (reply ∷ []) new
    → HasSaid limits (map text (take (i + 1) lines)) new
next_said law limits text lines i d old new line reply h e said answers =
    subst (λ (all : List (List ℕ)). HasSaid limits all new) (sym (map_more text lines i d h))
    (subst (λ (last : List ℕ). HasSaid limits (map text (take i lines) ++ last ∷ []) new) e
    (more_said law limits (map text (take i lines)) old new line reply said answers))
