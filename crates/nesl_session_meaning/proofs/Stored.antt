-- What a line leaves of the lines that a session stores.
use Rattle.std.proofs.Common.{◌≡◌, ℕ, List, [], ◌∷◌, Bool, true, false, Some, None, refl, sym, ap, ◌∙◌, subst}
use Rattle.std.specs.Bool.{MatchBool}
use Rattle.nesl_session_meaning.specs.declared.limits.Limits.{Limits}
use Rattle.nesl_session_meaning.specs.State.{State, Log}
use Rattle.nesl_session_meaning.specs.Response.{Reply, no_memory, is_memory}
use Rattle.nesl_session_meaning.specs.Finding.{Finding, unread, reset, part, refused, answered}
use Rattle.nesl_session_meaning.specs.Step.{Step, after}
use Rattle.nesl_session_meaning.specs.Solo.{Replays, SessionAnswers}
use Rattle.nesl_session_meaning.specs.Laws as laws
use Rattle.nesl_session_meaning.specs.Laws.{Stores, LinesAreStored}

-- what callers see of a session with this state
abbrev log_at : Limits → State → Log
log_at limits s = record { limits = limits; base = s.base; cleared = s.cleared; lines = s.transcript }

log_is : (log : Log) (limits : Limits) (s : State) → Replays log s → log.limits ≡ limits → log ≡ log_at limits s
log_is log limits s r l =
    let base = sym r.base in
    let cleared = sym r.cleared in
    let lines = sym r.lines in
    λ i. record { limits = l i; base = base i; cleared = cleared i; lines = lines i }

found_stores : (limits : Limits) (s : State) (line : List ℕ) (f : Finding) → Stores (log_at limits s) line (log_at limits (after line s f))
found_stores limits s line (unread fault) = laws.nothing
found_stores limits s line reset = laws.reset s.work_left
found_stores limits s line part = laws.the_line
found_stores limits s line (refused fault work) = laws.the_line
found_stores limits s line (answered told work None) = laws.the_line
found_stores limits s line (answered told work (Some b)) = laws.the_line

step_stores : (limits : Limits) (s t : State) (line : List ℕ) (reply : Reply) → Step limits s line reply t → Stores (log_at limits s) line (log_at limits t)
unfolding Step
step_stores limits s t line reply step =
    subst (λ (x : State). Stores (log_at limits s) line (log_at limits x)) (sym step.3) (found_stores limits s line step.0)

alone_stores : (old new : Log) (line : List ℕ) (reply : Reply) → SessionAnswers old (line ∷ []) (reply ∷ []) new → Stores old line new
alone_stores old new line reply a =
    let stores = step_stores old.limits a.before a.run.0 line reply a.run.1 in
    let was : old ≡ log_at old.limits a.before = log_is old old.limits a.before a.starts refl in
    let is : new ≡ log_at old.limits a.run.0 = log_is new old.limits a.after a.ends a.limits ∙ ap (log_at old.limits) a.run.2 in
    subst (λ (x : Log). Stores x line new) (sym was) (subst (λ (x : Log). Stores (log_at old.limits a.before) line x) (sym is) stores)

stores : (memory : Bool) (old new : Log) (line : List ℕ) (reply : Reply) → MatchBool memory ((reply ≡ no_memory) × (new ≡ old)) (SessionAnswers old (line ∷ []) (reply ∷ []) new) → Stores old line new
stores true old new line reply a = subst (λ (x : Log). Stores old line x) (sym a.1) laws.nothing
stores false old new line reply a = alone_stores old new line reply a

pub are_stored : LinesAreStored
are_stored old new line reply a = stores (is_memory reply) old new line reply a
