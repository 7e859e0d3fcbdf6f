-- A step from a state that is replayed leaves one that is replayed.
use Rattle.std.proofs.Common.{◌≡◌, ℕ, List, [], ◌∷◌, ◌++◌, Bool, true, false, Some, None, refl, sym, ap, ◌∙◌, subst}
use Rattle.std.specs.Bool.{MatchBool}
use Rattle.nesl_types_shared.specs.Term.{Term}
use Rattle.nesl_syntax_tree.specs.Trees.{FormTree, Tree}
use Rattle.nesl_syntax_tree.specs.Trees as trees
use Rattle.nesl_scalars.specs.declared.trap.Trap.{Trap}
use Rattle.nesl_scalars.specs.declared.trap.Trap.TheVariants as trap
use Rattle.nesl_infer.specs.Verdicts.{Verdict, typed, unknown_at, ill_typed, ambiguous}
use Rattle.nesl_eval_meaning.specs.Names.{Name, Value}
use Rattle.nesl_eval_meaning.specs.Out.{Budgeted, fits_budget, exceeds_budget, value, fault, stuck}
use Rattle.nesl_reply.specs.declared.fault.Stop.{Stop}
use Rattle.nesl_reply.specs.declared.fault.Fault.{Fault}
use Rattle.nesl_reply.specs.Faults.{fault_of}
use Rattle.nesl_reply.specs.Replies.{Report}
use Rattle.nesl_session_bindings.specs.Meanings.{Binding}
use Rattle.nesl_session_bindings.specs.declared.refusal.Refusal.{Refusal}
use Rattle.nesl_session_bindings.specs.declared.refusal.Refusal.TheVariants.{Retype, Taken}
use Rattle.nesl_session_bindings.specs.Redefinition.{Definition, it}
use Rattle.nesl_session_meaning.specs.declared.limits.Limits.{Limits}
use Rattle.nesl_session_meaning.specs.State.{State, Log, opening}
use Rattle.nesl_session_meaning.specs.Reading.{Reading, HasReading, no_form, too_high, form}
use Rattle.nesl_session_meaning.specs.Reading as readings
use Rattle.nesl_session_meaning.specs.Response.{Reply, is_memory}
use Rattle.nesl_session_meaning.specs.Finding.{Finding, unread, reset, part, refused, answered, RefusesTyping, refusal_fault, FindsRoom, FindsDefinition, FindsOutcome, FindsVariable}
use Rattle.nesl_session_meaning.specs.Finding.{FindsForm, FindsReading, an_unknown_name, no_type, two_types, room, no_room, definition_refused, definition_free}
use Rattle.nesl_session_meaning.specs.Finding.{too_much_work, a_fault, a_value, variable_untyped, variable_refused, evaluated}
use Rattle.nesl_session_meaning.specs.Finding.{of_nothing, of_function, of_no_function, of_datatype, of_no_datatype, of_variable, of_expression, of_names, of_budget, of_type, of_no_type, lexical, syntax, nested, has_tree}
use Rattle.nesl_session_meaning.specs.Step.{Step, Finds, after, reply_of, recorded_by_reset, reset_too_often, resets, transcript_full, too_long, one_part, is_read}
use Rattle.nesl_session_meaning.specs.Solo.{SessionRuns, Replays, SessionAnswers, Responds}

-- what a session with this state shows
abbrev pub log_at : Limits → State → Log
log_at limits s = record { limits = limits; base = s.base; cleared = s.cleared; lines = s.transcript }

-- a session shows what its state is the replay of
pub log_same : (log : Log) (s : State) → Replays log s → log_at log.limits s ≡ log
log_same log s r = λ i. record { limits = log.limits; base = r.base i; cleared = r.cleared i; lines = r.lines i }

-- one run after another is a run
pub solo_append : (limits : Limits) (s mid t : State) (xs ys : List (List ℕ)) (qs rs : List Reply) → SessionRuns limits s xs qs mid → SessionRuns limits mid ys rs t → SessionRuns limits s (xs ++ ys) (qs ++ rs) t
solo_append limits s mid t [] ys [] rs a b = let P : State → Type 0 = λ x. SessionRuns limits x ys rs t in subst P a b
solo_append limits s mid t [] ys (q ∷ qs) rs a b = absurd a
solo_append limits s mid t (x ∷ xs) ys [] rs a b = absurd a
solo_append limits s mid t (x ∷ xs) ys (q ∷ qs) rs a b = (a.0, a.1, solo_append limits a.0 mid t xs ys qs rs a.2 b)

-- with no line stored, the state is what the last reset left
pub replays_none : (limits : Limits) (base cleared : ℕ) → Replays (log_at limits (opening base cleared)) (opening base cleared)
replays_none limits base cleared = record { replies = []; run = refl; lines = refl; base = refl; cleared = refl }

-- a line that is stored is one line more of the replay
pub replays_more : (log : Log) (s t : State) (line : List ℕ) (reply : Reply) → Replays log s → Step log.limits s line reply t
    → t.transcript ≡ s.transcript ++ line ∷ [] → t.base ≡ s.base → t.cleared ≡ s.cleared → Replays (log_at log.limits t) t
replays_more log s t line reply r step lines base cleared =
    let P : Log → Type 0 = λ l. SessionRuns l.limits (opening l.base l.cleared) l.lines (r.replies ++ reply ∷ []) t in
    let grown : record log { lines = log.lines ++ line ∷ [] } ≡ log_at log.limits t =
    λ i. record { limits = log.limits; base = sym (base ∙ r.base) i; cleared = sym (cleared ∙ r.cleared) i; lines = sym (lines ∙ ap (λ x. x ++ line ∷ []) r.lines) i } in
    record {
      replies = r.replies ++ reply ∷ [];
      run = subst P grown (solo_append log.limits (opening log.base log.cleared) s t log.lines (line ∷ []) r.replies (reply ∷ []) r.run (t, step, refl));
      lines = refl;
      base = refl;
      cleared = refl;
    }

-- what is found of a line makes a step
pub step_of : (limits : Limits) (s : State) (line : List ℕ) (f : Finding) → Finds limits s line f → Step limits s line (reply_of s f) (after line s f)
unfolding Step
step_of limits s line f h = (f, h, refl, refl)

pub replays_after : (log : Log) (s : State) (line : List ℕ) (f : Finding) → Replays log s → Finds log.limits s line f → Replays (log_at log.limits (after line s f)) (after line s f)
replays_after log s line (unread k) r h = let P : Log → Type 0 = λ l. Replays l s in subst P (sym (log_same log s r)) r
replays_after log s line reset r h = replays_none log.limits s.work_left (recorded_by_reset s)
replays_after log s line part r h = replays_more log s (after line s part) line (reply_of s part) r (step_of log.limits s line part h) refl refl refl
replays_after log s line (refused k w) r h = replays_more log s (after line s (refused k w)) line (reply_of s (refused k w)) r (step_of log.limits s line (refused k w) h) refl refl refl
replays_after log s line (answered t w None) r h = replays_more log s (after line s (answered t w None)) line (reply_of s (answered t w None)) r (step_of log.limits s line (answered t w None) h) refl refl refl
replays_after log s line (answered t w (Some b)) r h =
    replays_more log s (after line s (answered t w (Some b))) line (reply_of s (answered t w (Some b))) r (step_of log.limits s line (answered t w (Some b)) h) refl refl refl

-- a step from a state that is replayed: the session answers the line alone, and shows the state after it
pub alone_after : (old : Log) (s t : State) (line : List ℕ) (reply : Reply) → Replays old s → Step old.limits s line reply t → SessionAnswers old (line ∷ []) (reply ∷ []) (log_at old.limits t)
unfolding Step
alone_after old s t line reply r step =
    let P : State → Type 0 = λ x. Replays (log_at old.limits x) x in
    record {
      before = s;
      after = t;
      starts = r;
      run = (t, step, refl);
      ends = subst P (sym step.3) (replays_after old s line step.0 r step.1);
      limits = refl;
    }

-- no step has the fault `Memory`
abbrev IsKept : State → Finding → Type 0
IsKept s f = is_memory (reply_of s f) ≡ false

kept_fault : (s : State) (t : Trap) (stop : Stop) (w : ℕ) → IsKept s (refused (fault_of t stop) w)
kept_fault s trap.Overflow stop w = refl
kept_fault s trap.Division stop w = refl
kept_fault s trap.Range stop w = refl
kept_fault s trap.Code stop w = refl
kept_fault s trap.Length stop w = refl
kept_fault s trap.Empty stop w = refl
kept_fault s trap.Permutation stop w = refl
kept_fault s trap.Count stop w = refl
kept_fault s trap.Stride stop w = refl
kept_fault s trap.Deep stop w = refl
kept_fault s trap.Large stop w = refl

kept_typing : {T : Type 0} (s : State) (v : Verdict T) (k : Fault) → RefusesTyping v k → IsKept s (refused k 0)
kept_typing s (unknown_at at) k an_unknown_name = refl
kept_typing s ill_typed k no_type = refl
kept_typing s ambiguous k two_types = refl
kept_typing s (typed t) k r = elim r [ ]

kept_refusal : (s : State) (r : Refusal) → IsKept s (refused (refusal_fault r) 0)
kept_refusal s Retype = refl
kept_refusal s Taken = refl

-- whatever is found so is kept
abbrev AreKept : State → (Finding → Type 0) → Type 0
AreKept s K = (f : Finding) → K f → IsKept s f

kept_room : (limits : Limits) (s : State) (t : Report) (w : ℕ) (b : Binding) → AreKept s (FindsRoom limits s t w b)
kept_room limits s t w b f (room le) = refl
kept_room limits s t w b f (no_room over) = refl

kept_definition : (limits : Limits) (s : State) (k : Definition) (t : Report) (b : Binding) → AreKept s (FindsDefinition limits s k t b)
kept_definition limits s k t b f (definition_refused r h) = kept_refusal s r
kept_definition limits s k t b f (definition_free {f = found} h r) = kept_room limits s t 0 b found r

kept_outcome : (limits : Limits) (s : State) (x : Name) (t : Term) (o : Budgeted Value) → AreKept s (FindsOutcome limits s x t o)
kept_outcome limits s x t exceeds_budget f too_much_work = refl
kept_outcome limits s x t (fits_budget (fault k at w)) f a_fault = kept_fault s k (record { span = at; work = w }) w
kept_outcome limits s x t (fits_budget (value v w d)) f (a_value {f = found} r) = kept_room limits s _ w _ found r
kept_outcome limits s x t (fits_budget stuck) f h = elim h [ ]

kept_variable : (limits : Limits) (s : State) (x : Name) (e : Tree) → AreKept s (FindsVariable limits s x e)
kept_variable limits s x e f (variable_untyped {v = v} {k = k} h r) = kept_typing s v k r
kept_variable limits s x e f (variable_refused r h a) = kept_refusal s r
kept_variable limits s x e f (evaluated {t = t} {f = found} h a o) = kept_outcome limits s x t _ found o

kept_line : (limits : Limits) (s : State) (l : FormTree) → AreKept s (FindsForm limits s l)
kept_line limits s trees.nothing f of_nothing = refl
kept_line limits s (trees.function x p g e) f (of_function {f = found} h d) = kept_definition limits s _ _ _ found d
kept_line limits s (trees.function x p g e) f (of_no_function {v = v} {k = k} h r) = kept_typing s v k r
kept_line limits s (trees.datatype x a) f (of_datatype {f = found} h d) = kept_definition limits s _ _ _ found d
kept_line limits s (trees.datatype x a) f (of_no_datatype {v = v} {k = k} h r) = kept_typing s v k r
kept_line limits s (trees.bind x e) f (of_variable {f = found} h) = kept_variable limits s x e found h
kept_line limits s (trees.evaluate e) f (of_expression {f = found} h) = kept_variable limits s it e found h
kept_line limits s trees.show_names f of_names = refl
kept_line limits s trees.show_budget f of_budget = refl
kept_line limits s (trees.show_type e) f (of_type h) = refl
kept_line limits s (trees.show_type e) f (of_no_type {v = v} {k = k} h r) = kept_typing s v k r

kept_reading : (limits : Limits) (s : State) (m : Reading) → AreKept s (FindsReading limits s m)
kept_reading limits s (readings.no_token at) f lexical = refl
kept_reading limits s no_form f syntax = refl
kept_reading limits s too_high f nested = refl
kept_reading limits s (form l) f (has_tree {f = found} h) = kept_line limits s l found h

pub kept : (limits : Limits) (s : State) (line : List ℕ) (f : Finding) → Finds limits s line f → is_memory (reply_of s f) ≡ false
kept limits s line f (reset_too_often e o) = refl
kept limits s line f (resets e o) = refl
kept limits s line f (transcript_full e o) = refl
kept limits s line f (too_long e o p) = refl
kept limits s line f (one_part e o p q) = refl
kept limits s line f (is_read {reading = m} {f = found} e o p q h r) = kept_reading limits s m found r

pub step_kept : (limits : Limits) (s t : State) (line : List ℕ) (reply : Reply) → Step limits s line reply t → is_memory reply ≡ false
unfolding Step
step_kept limits s t line reply step = ap is_memory step.2 ∙ kept limits s line step.0 step.1

responds_if : (b : Bool) (A B : Type 0) → b ≡ false → B → MatchBool b A B
responds_if true A B e h = absurd cc
responds_if false A B e h = h

-- a step from a state that is replayed is an answer of the session, which has then become what its state shows
pub responds_after : (old new : Log) (s t : State) (line : List ℕ) (reply : Reply) → Replays old s → Step old.limits s line reply t → log_at old.limits t ≡ new → Responds old line reply new
responds_after old new s t line reply r step e =
    let P : Log → Type 0 = λ l. SessionAnswers old (line ∷ []) (reply ∷ []) l in
    responds_if (is_memory reply) _ _ (step_kept old.limits s t line reply step) (subst P e (alone_after old s t line reply r step))
