-- Runs of one session that no one else uses.
use Rattle.std.specs.Prelude.{◌≡◌, ℕ, List, [], ◌∷◌}
use Rattle.std.specs.Bool.{MatchBool}
use Rattle.nesl_session_meaning.specs.declared.limits.Limits.{Limits}
use Rattle.nesl_session_meaning.specs.State.{State, Log, opening}
use Rattle.nesl_session_meaning.specs.Step.{Step}
use Rattle.nesl_session_meaning.specs.Response.{Reply, no_memory, is_memory}

-- from the state `s`, these replies answer the lines one after another, and the last line leaves the state `s'`
abbrev pub SessionRuns : Limits → State → List (List ℕ) → List Reply → State → Type 0
SessionRuns limits s [] [] s' = s' ≡ s
SessionRuns limits s (line ∷ lines) (reply ∷ replies) s' =
    (mid : State) × Step limits s line reply mid × SessionRuns limits mid lines replies s'
SessionRuns limits s _ _ s' = ⊥

-- the state of a session is the replay of its stored lines, from the state that the last reset left
pub record Replays (log : Log) (s : State) : Type 0 where
  pub replies : List Reply
  pub run : SessionRuns log.limits (opening log.base log.cleared) log.lines replies s
  pub lines : s.transcript ≡ log.lines
  pub base : s.base ≡ log.base
  pub cleared : s.cleared ≡ log.cleared

-- alone, the session `old` answers these lines with these replies, and is the session `new` afterwards
pub record SessionAnswers (old : Log) (lines : List (List ℕ)) (replies : List Reply) (new : Log) : Type 0 where
  pub before : State
  pub after : State
  pub starts : Replays old before
  pub run : SessionRuns old.limits before lines replies after
  pub ends : Replays new after
  pub limits : new.limits ≡ old.limits

-- a session's answer to one line: a step, or `fault memory`, which changes nothing
abbrev pub Responds : Log → List ℕ → Reply → Log → Type 0
Responds old line reply new =
    MatchBool (is_memory reply) ((reply ≡ no_memory) × (new ≡ old)) (SessionAnswers old (line ∷ []) (reply ∷ []) new)
