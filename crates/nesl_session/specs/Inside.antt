-- The state that a session's fields hold.
use Rattle.std.specs.Prelude.{◌≡◌, ◌≤◌, map, sum_by, length}
use Rattle.nesl_session_bindings.specs.Stored.{bindings_of}
use Rattle.nesl_session_meaning.specs.declared.limits.Limits.{Limits}
use Rattle.nesl_session.specs.declared.standing.Standing.{Standing}
use Rattle.nesl_session_meaning.specs.State.{State, Log}
use Rattle.nesl_session_meaning.specs.Step.{most_recorded}
use Rattle.nesl_session_meaning.specs.Solo.{Replays}

abbrev pub state_of : Standing → State
state_of a = record {
  bindings = bindings_of a.bindings;
  work_left = a.work_left;
  transcript = map (λ v. v.items) a.transcript.items;
  pending = a.pending.items;
  base = a.base;
  cleared = a.cleared;
}

-- what callers see of a session with this state
abbrev pub log_of_state : Limits → State → Log
log_of_state limits s = record { limits = limits; base = s.base; cleared = s.cleared; lines = s.transcript }

abbrev pub log_of : Standing → Log
log_of a = log_of_state a.limits (state_of a)

-- the bytes of the transcript are counted, and no more lines are cleared than may be recorded
pub record Counts (a : Standing) : Type 0 where
  pub bytes : a.bytes ≡ sum_by length (map (λ v. v.items) a.transcript.items)
  pub cleared : a.cleared ≤ most_recorded

-- what holds of the fields of every session
pub record IsSound (a : Standing) : Type 0 where
  pub replayed : Replays (log_of a) (state_of a)
  pub counts : Counts a
