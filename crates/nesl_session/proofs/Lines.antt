-- A line of a session: its step, its answer, and what the session keeps.
use Rattle.std.proofs.Common.{◌≡◌, ℕ, List, Option, refl, sym, ◌∙◌, subst}
use Rattle.nesl_session_meaning.specs.declared.limits.Limits.{Limits}
use Rattle.nesl_session.specs.declared.standing.Standing.{Standing}
use Rattle.nesl_session_meaning.specs.State.{State, Log}
use Rattle.nesl_session_meaning.specs.Response.{Reply, no_memory}
use Rattle.nesl_session_meaning.specs.Finding.{Finding}
use Rattle.nesl_session_meaning.specs.Step.{Step, Finds, after, reply_of}
use Rattle.nesl_session_meaning.specs.Solo.{Replays, Responds}
use Rattle.nesl_reply.specs.declared.fault.Fault.{Fault}
use Rattle.nesl_session.specs.declared.forms.finding.Finding.{Finding as Found}
use Rattle.nesl_session.specs.Found.{finding_of, fault_in}
use Rattle.nesl_session.specs.Inside.{state_of, log_of, log_of_state, Counts, IsSound}
use Rattle.nesl_session.specs.Asking.{AnswersWith}
use Rattle.nesl_session.proofs.Replied.{fault_replied}
use Rattle.nesl_session_meaning.proofs.Replayed.{replays_after, responds_after}

pub step_from : (limits : Limits) (s t : State) (line : List ℕ) (reply : Reply) (f : Finding) → Finds limits s line f → reply ≡ reply_of s f → t ≡ after line s f → Step limits s line reply t
unfolding Step
step_from limits s t line reply f h a b = (f, h, a, b)

-- the log of a standing with other limits
same_log : (a b : Standing) → b.limits ≡ a.limits → log_of_state a.limits (state_of b) ≡ log_of b
same_log a b e = λ i. log_of_state (sym e i) (state_of b)

replayed_after : (a : Standing) (t : State) (line : List ℕ) (reply : Reply) → Replays (log_of a) (state_of a) → Step a.limits (state_of a) line reply t → Replays (log_of_state a.limits t) t
unfolding Step
replayed_after a t line reply r step =
    let P : State → Type 0 = λ x. Replays (log_of_state a.limits x) x in
    subst P (sym step.3) (replays_after (log_of a) (state_of a) line step.0 r step.1)

pub keeps_step : (a b : Standing) (line : List ℕ) (reply : Reply) → IsSound a → Step a.limits (state_of a) line reply (state_of b) → b.limits ≡ a.limits → Counts b → IsSound b
keeps_step a b line reply k step limits counts = record {
  replayed = subst (λ (l : Limits). Replays (log_of_state l (state_of b)) (state_of b)) (sym limits) (replayed_after a (state_of b) line reply k.replayed step);
  counts = counts;
}

pub keeps_same : (a b : Standing) → IsSound a → state_of b ≡ state_of a → b.limits ≡ a.limits → Counts b → IsSound b
keeps_same a b k same limits counts = record {
  replayed = subst (λ (l : Limits). Replays (log_of_state l (state_of b)) (state_of b)) (sym limits) (subst (λ (s : State). Replays (log_of_state a.limits s) s) (sym same) k.replayed);
  counts = counts;
}

pub answered : (a b : Standing) (old new : Log) (line : List ℕ) (reply : Reply) → IsSound a → Step a.limits (state_of a) line reply (state_of b) → b.limits ≡ a.limits → log_of a ≡ old → log_of b ≡ new
    → Responds old line reply new
answered a b old new line reply k step limits o n =
    let Q : Log → Type 0 = λ x. Responds x line reply new in
    subst Q o (responds_after (log_of a) new (state_of a) (state_of b) line reply k.replayed step (same_log a b limits ∙ n))

pub unanswered : (a b : Standing) (old new : Log) (line : List ℕ) → state_of b ≡ state_of a → b.limits ≡ a.limits → log_of a ≡ old → log_of b ≡ new → Responds old line no_memory new
unanswered a b old new line same limits o n =
    let logs : log_of b ≡ log_of a = λ i. log_of_state (limits i) (same i) in
    (refl, sym n ∙ logs ∙ o)

pub refused : (a : Standing) (log : Log) (line : List ℕ) (f : Found) (fault : Option Fault) → IsSound a → log_of a ≡ log → Finds a.limits (state_of a) line (finding_of f) → fault ≡ fault_in f
    → AnswersWith log line fault
refused a log line f fault k l h e =
    let s = state_of a in
    let P : Log → Type 0 = λ x. AnswersWith x line fault in
    subst P l (record {
      before = s;
      reply = reply_of s (finding_of f);
      next = after line s (finding_of f);
      replayed = k.replayed;
      step = step_from a.limits s (after line s (finding_of f)) line (reply_of s (finding_of f)) (finding_of f) h refl refl;
      same = e ∙ fault_replied s f;
    })
