-- What a line adds to the lines that a session has recorded.
use Rattle.std.proofs.Common.{◌≡◌, ℕ, List, [], ◌∷◌, ◌++◌, ◌+◌, length, length-append, Bool, true, false, Some, None, cond, sym, ap, ◌∙◌, arith}
use Rattle.std.specs.Bool.{MatchBool}
use Rattle.nesl_session_meaning.specs.declared.limits.Limits.{Limits}
use Rattle.nesl_session_meaning.specs.State.{State, Log, recorded_lines}
use Rattle.nesl_session_meaning.specs.Response.{Reply, no_memory, is_memory}
use Rattle.nesl_session_meaning.specs.Finding.{Finding, unread, reset, part, refused, answered}
use Rattle.nesl_session_meaning.specs.Step.{Step, after, reply_of}
use Rattle.nesl_session_meaning.specs.Solo.{Replays, SessionAnswers}
use Rattle.nesl_session_meaning.specs.Laws.{RecordedLinesGrow, LimitsStay}

-- one, where this is recorded
abbrev one_if : Bool → ℕ
one_if recorded = cond recorded 1 0

-- the number of lines recorded until this state
abbrev told_in : State → ℕ
told_in s = s.cleared + length s.transcript

stored_one : (s : State) (line : List ℕ) → s.cleared + length (s.transcript ++ line ∷ []) ≡ told_in s + 1
stored_one s line = let e = length-append s.transcript (line ∷ []) in omega (arith, e)

-- what was found adds one, where it is recorded
found_adds : (s : State) (line : List ℕ) (f : Finding) → told_in (after line s f) ≡ told_in s + one_if (reply_of s f).recorded
found_adds s line (unread fault) = omega arith
found_adds s line reset = omega arith
found_adds s line part = stored_one s line
found_adds s line (refused fault work) = stored_one s line
found_adds s line (answered told work None) = stored_one s line
found_adds s line (answered told work (Some b)) = stored_one s line

step_adds : (limits : Limits) (s t : State) (line : List ℕ) (reply : Reply) → Step limits s line reply t → told_in t ≡ told_in s + one_if reply.recorded
unfolding Step
step_adds limits s t line reply step =
    ap told_in step.3 ∙ found_adds s line step.0 ∙ ap (λ (r : Reply). told_in s + one_if r.recorded) (sym step.2)

told_of_state : (log : Log) (s : State) → Replays log s → recorded_lines log ≡ told_in s
told_of_state log s r = let c = r.cleared in let n = ap length r.lines in omega (arith, c, n)

alone_adds : (old new : Log) (line : List ℕ) (reply : Reply) → SessionAnswers old (line ∷ []) (reply ∷ []) new → recorded_lines new ≡ recorded_lines old + one_if reply.recorded
alone_adds old new line reply a =
    let step = step_adds old.limits a.before a.run.0 line reply a.run.1 in
    let last = ap told_in a.run.2 in
    let before = told_of_state old a.before a.starts in
    let now = told_of_state new a.after a.ends in
    omega (arith, step, last, before, now)

adds : (memory : Bool) (old new : Log) (line : List ℕ) (reply : Reply) → MatchBool memory ((reply ≡ no_memory) × (new ≡ old)) (SessionAnswers old (line ∷ []) (reply ∷ []) new)
    → recorded_lines new ≡ recorded_lines old + one_if reply.recorded
adds true old new line reply a = let none = ap (λ (r : Reply). one_if r.recorded) a.0 in let same = ap recorded_lines a.1 in omega (arith, none, same)
adds false old new line reply a = alone_adds old new line reply a

pub grows : RecordedLinesGrow
grows old new line reply a = adds (is_memory reply) old new line reply a

stay : (memory : Bool) (old new : Log) (line : List ℕ) (reply : Reply) → MatchBool memory ((reply ≡ no_memory) × (new ≡ old)) (SessionAnswers old (line ∷ []) (reply ∷ []) new) → new.limits ≡ old.limits
stay true old new line reply a = ap (λ (log : Log). log.limits) a.1
stay false old new line reply a = a.limits

pub limits_stay : LimitsStay
limits_stay old new line reply a = stay (is_memory reply) old new line reply a
