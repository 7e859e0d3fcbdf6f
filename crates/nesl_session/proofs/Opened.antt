-- A session to which nothing was said.
use Rattle.std.proofs.Common.{◌≡◌, ℕ, [], sym, subst}
use Rattle.nesl_session_meaning.specs.declared.limits.Limits.{Limits}
use Rattle.nesl_session.specs.declared.standing.Standing.{Standing}
use Rattle.nesl_session_meaning.specs.State.{State, Log, opening, empty_log}
use Rattle.nesl_session_meaning.specs.Solo.{Replays}
use Rattle.nesl_session.specs.Inside.{state_of, log_of, log_of_state, Counts, IsSound}
use Rattle.nesl_session_meaning.proofs.Replayed.{replays_none}

pub opened_keeps : (a : Standing) (base cleared : ℕ) → state_of a ≡ opening base cleared → Counts a → IsSound a
opened_keeps a base cleared e counts = record {
  replayed = subst (λ (s : State). Replays (log_of_state a.limits s) s) (sym e) (replays_none a.limits base cleared);
  counts = counts;
}

pub opened_log : (a : Standing) (limits : Limits) → state_of a ≡ opening limits.session_work 0 → a.limits ≡ limits → log_of a ≡ empty_log limits
opened_log a limits e l = λ i. log_of_state (l i) (e i)

pub opened_as : (a : Standing) (limits : Limits) (base cleared : ℕ) → state_of a ≡ opening base cleared → a.limits ≡ limits → log_of a ≡ record { limits = limits; base = base; cleared = cleared; lines = [] }
opened_as a limits base cleared e l = λ i. log_of_state (l i) (e i)

pub opened_state : (a : Standing) (log : Log) → log_of a ≡ log → IsSound a → (s : State) × Replays log s
opened_state a log e k = (state_of a, subst (λ (x : Log). Replays x (state_of a)) e k.replayed)
