-- Why a session would refuse a line that it doesn't get.
use Rattle.std.specs.Prelude.{◌≡◌, ℕ, List, Option}
use Rattle.nesl_reply.specs.declared.fault.Fault.{Fault}
use Rattle.nesl_session_meaning.specs.State.{State, Log}
use Rattle.nesl_session_meaning.specs.Response.{Reply}
use Rattle.nesl_session_meaning.specs.Step.{Step}
use Rattle.nesl_session_meaning.specs.Solo.{Replays}

-- the session would answer the line with this fault, or with none
pub record AnswersWith (log : Log) (line : List ℕ) (fault : Option Fault) : Type 0 where
  pub before : State
  pub reply : Reply
  pub next : State
  pub replayed : Replays log before
  pub step : Step log.limits before line reply next
  pub same : fault ≡ reply.fault
