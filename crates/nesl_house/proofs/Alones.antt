-- Runs of a house begin, follow one another, and are decided by each user's own lines.
use Rattle.std.proofs.Common.{◌≡◌, ℕ, List, [], ◌∷◌, ◌++◌, Bool, true, false, not, cond, Option, Some, None, refl, sym, ap, ◌∙◌, subst}
use Rattle.std.specs.Prelude.{filter}
use Rattle.std.specs.List.{AllByRecursion}
use Rattle.std.specs.Str.{bytes_eq}
use Rattle.std.specs.Bool.{MatchBool}
use Rattle.std.proofs.lemmas.List.{map-append}
use Rattle.std.proofs.lemmas.List.Elements.{filter-append}
use Rattle.std.proofs.lemmas.Slice.Eq.{bytes_eq-Decides}
use Rattle.nesl_session_meaning.specs.State.{State, Log}
use Rattle.nesl_session_meaning.specs.Response.{Reply, no_memory, no_user, is_memory}
use Rattle.nesl_session_meaning.specs.Solo.{Replays, SessionAnswers, Responds}
use Rattle.nesl_session_meaning.specs.Laws.{GoesOn, OneRun, OneState}
use Rattle.nesl_house.specs.Script.{Event, lines_of, replies_of, kept_events}
use Rattle.nesl_house.specs.Laws.{ScriptsFollow, SameBindings, OwnLinesDecide}
use Rattle.nesl_house.specs.Runs.{Account, roster_of, session_of, AllReplay, RunsAlone, IsReplied, Runs}

-- a session that is found is a replay
found_here : (b : Bool) (account : Account) (rest : Option Log) (log : Log) → (s : State) × Replays account.session s → (rest ≡ Some log → (s : State) × Replays log s) → cond b (Some account.session) rest ≡ Some log → (s : State) × Replays log s
found_here true account rest log here there e = let same : account.session ≡ log = cc in let P : Log → Type 0 = λ x. (s : State) × Replays x s in subst P same here
found_here false account rest log here there e = there e

pub session_replays : (accounts : List Account) (user : List ℕ) (log : Log) → AllReplay accounts → session_of accounts user ≡ Some log → (s : State) × Replays log s
session_replays [] user log all e = absurd (cc)
session_replays (account ∷ accounts) user log all e = found_here (bytes_eq account.name user) account (session_of accounts user) log all.0 (session_replays accounts user log all.1) e

-- a session that gets no line stays as it is
alone_none : (log : Log) (s : State) → Replays log s → SessionAnswers log [] [] log
alone_none log s r = record { before = s; after = s; starts = r; run = refl; ends = r; limits = refl }

-- without a line, a user's session stays
pub alone_silent : (o : Option Log) → ((log : Log) → o ≡ Some log → (s : State) × Replays log s) → RunsAlone o [] o
alone_silent None h = refl
alone_silent (Some log) h = let r = h log refl in (log, refl, alone_none log r.0 r.1)

pub runs_none : (house : List Account) → AllReplay house → Runs house [] house
runs_none house all = record { roster = refl; each = tt; users = λ user. alone_silent (session_of house user) (λ log. session_replays house user log all) }

all_append : {X : Type 0} (P Q : X → Type 0) → ((x : X) → Q x → P x) → (xs ys : List X) → AllByRecursion P xs → AllByRecursion Q ys → AllByRecursion P (xs ++ ys)
all_append P Q f [] [] a b = tt
all_append P Q f [] (y ∷ ys) a b = (f y b.0, all_append P Q f [] ys tt b.1)
all_append P Q f (x ∷ xs) ys a b = (a.0, all_append P Q f xs ys a.1 b)

alone_next : GoesOn → (o mid new : Option Log) (es fs : List Event) → RunsAlone o es mid → RunsAlone mid fs new → RunsAlone o (es ++ fs) new
alone_next goes_on None mid new es fs a b = let P : Option Log → Type 0 = λ x. RunsAlone x fs new in subst P a b
alone_next goes_on (Some old) mid new es fs a b =
    let P : Option Log → Type 0 = λ x. RunsAlone x fs new in
    let c = subst P a.1 b in
    let one = goes_on old a.0 c.0 (lines_of es) (lines_of fs) (replies_of es) (replies_of fs) a.2 c.2 in
    let Q : List (List ℕ) → Type 0 = λ x. SessionAnswers old x (replies_of es ++ replies_of fs) c.0 in
    let R : List Reply → Type 0 = λ x. SessionAnswers old (lines_of (es ++ fs)) x c.0 in
    (c.0, c.1, subst R (sym (map-append (λ (e : Event). e.reply) es fs)) (subst Q (sym (map-append (λ (e : Event). e.line) es fs)) one))

pub stays_none : (o new : Option Log) (es : List Event) → RunsAlone o es new → o ≡ None → new ≡ None
stays_none None new es a e = a
stays_none (Some log) new es a e = absurd (cc)

pub kept-append : (user : List ℕ) (es fs : List Event) → kept_events user (es ++ fs) ≡ kept_events user es ++ kept_events user fs
kept-append user es fs = ap (filter (λ (e : Event). not (is_memory e.reply))) (filter-append (λ (e : Event). bytes_eq e.user user) es fs) ∙ filter-append (λ (e : Event). not (is_memory e.reply)) (filter (λ (e : Event). bytes_eq e.user user) es) (filter (λ (e : Event). bytes_eq e.user user) fs)

-- one script after another
pub runs_then : GoesOn → ScriptsFollow
runs_then goes_on a b c es fs p q = record {
  roster = q.roster ∙ p.roster;
  each = all_append (IsReplied a) (IsReplied b) (λ e t. record { stranger = λ none. t.stranger (stays_none (session_of a e.user) (session_of b e.user) (kept_events e.user es) (p.users e.user) none); memory = t.memory }) es fs p.each q.each;
  users = λ user.
      let P : List Event → Type 0 = λ x. RunsAlone (session_of a user) x (session_of c user) in
      subst P (sym (kept-append user es fs)) (alone_next goes_on (session_of a user) (session_of b user) (session_of c user) (kept_events user es) (kept_events user fs) (p.users user) (q.users user));
}

-- a user's own lines decide
pub alone_decided : OneRun → (one two : Option Log) (session : Log) (es fs : List Event) (after_one after_two : Option Log) → RunsAlone one es after_one → RunsAlone two fs after_two → one ≡ Some session → two ≡ Some session → lines_of es ≡ lines_of fs
    → (replies_of es ≡ replies_of fs) × (after_one ≡ after_two)
alone_decided one_run one two session es fs after_one after_two p q e f same =
    let P : Option Log → Type 0 = λ x. RunsAlone x es after_one in
    let Q : Option Log → Type 0 = λ x. RunsAlone x fs after_two in
    let a = subst P e p in
    let b = subst Q f q in
    let R : List (List ℕ) → Type 0 = λ x. SessionAnswers session x (replies_of fs) b.0 in
    let u = one_run session a.0 b.0 (lines_of es) (replies_of es) (replies_of fs) a.2 (subst R (sym same) b.2) in
    (u.0, a.1 ∙ ap (λ (x : Log). Some x) u.1 ∙ sym b.1)

-- one session has one list of bindings
pub same_bindings : OneState → (house other : List Account) (user : List ℕ) → session_of house user ≡ session_of other user → SameBindings house other user
same_bindings one_state house other user e one two s t p q r u =
    let both : Some one ≡ Some two = sym p ∙ e ∙ q in
    let same : one ≡ two = cc in
    let P : Log → Type 0 = λ x. Replays x t in
    ap (λ (x : State). x.bindings) (one_state one s t r (subst P (sym same) u))

pub own_lines : OneRun → OneState → OwnLinesDecide
own_lines one_run one_state one two after_one after_two said_one said_two user session p q e f same =
    let d = alone_decided one_run (session_of one user) (session_of two user) session (kept_events user said_one) (kept_events user said_two) (session_of after_one user) (session_of after_two user) (p.users user) (q.users user) e f same in
    (d.0, d.1, same_bindings one_state after_one after_two user d.1)

-- One line, of which a session gave the answer: to its user it is a run of one line or of none, and to the others of none.
one_kept : (memory : Bool) (e : Event) (old new : Log) → is_memory e.reply ≡ memory → (s : State) × Replays old s → MatchBool memory ((e.reply ≡ no_memory) × (new ≡ old)) (SessionAnswers old (e.line ∷ []) (e.reply ∷ []) new)
    → RunsAlone (Some old) (cond (not memory) (e ∷ []) []) (Some new)
one_kept true e old new m r a = (old, ap (λ (x : Log). Some x) a.1, alone_none old r.0 r.1)
one_kept false e old new m r a = (new, refl, a)

memory_told : (memory : Bool) (reply : Reply) (old new : Log) (P : Type 0) → MatchBool memory ((reply ≡ no_memory) × (new ≡ old)) P → memory ≡ true → reply ≡ no_memory
memory_told true reply old new P a h = a.0
memory_told false reply old new P a h = absurd (cc)

one_user : (b : Bool) (e : Event) (old new o p : Option Log) → (b ≡ true → RunsAlone o (filter (λ (x : Event). not (is_memory x.reply)) (e ∷ [])) p) → (b ≡ false → (o ≡ p) × RunsAlone o [] o) → RunsAlone o (filter (λ (x : Event). not (is_memory x.reply)) (cond b (e ∷ []) [])) p
one_user true e old new o p h k = h refl
one_user false e old new o p h k = let P : Option Log → Type 0 = λ x. RunsAlone o [] x in subst P (k refl).0 (k refl).1

-- a line of a user who is in the house
pub runs_one : (house house' : List Account) (e : Event) (old new : Log) → AllReplay house → roster_of house' ≡ roster_of house → session_of house e.user ≡ Some old → session_of house' e.user ≡ Some new
    → ((v : List ℕ) → bytes_eq e.user v ≡ false → session_of house' v ≡ session_of house v) → Responds old e.line e.reply new → Runs house (e ∷ []) house'
runs_one house house' e old new all names had has others a = record {
  roster = names;
  each = (record { stranger = λ none. absurd (cc); memory = memory_told (is_memory e.reply) e.reply old new (SessionAnswers old (e.line ∷ []) (e.reply ∷ []) new) a }, tt);
  users = λ v.
      one_user (bytes_eq e.user v) e None None (session_of house v) (session_of house' v)
      (λ yes'.
      let same : e.user ≡ v = (bytes_eq-Decides e.user v).0 yes' in
      let P : List ℕ → Type 0 = λ x. RunsAlone (session_of house x) (cond (not (is_memory e.reply)) (e ∷ []) []) (session_of house' x) in
      let Q : Option Log → Type 0 = λ x. RunsAlone x (cond (not (is_memory e.reply)) (e ∷ []) []) (session_of house' e.user) in
      let R : Option Log → Type 0 = λ x. RunsAlone (Some old) (cond (not (is_memory e.reply)) (e ∷ []) []) x in
      subst P same (subst Q (sym had) (subst R (sym has) (one_kept (is_memory e.reply) e old new refl (session_replays house e.user old all had) a))))
      (λ no'. (sym (others v no'), alone_silent (session_of house v) (λ log. session_replays house v log all)));
}

-- a line of a stranger
pub runs_stranger : (house : List Account) (e : Event) → AllReplay house → session_of house e.user ≡ None → e.reply ≡ no_user → Runs house (e ∷ []) house
runs_stranger house e all none a = record {
  roster = refl;
  each = (record { stranger = λ h. a; memory = λ h. let m : is_memory no_user ≡ true = ap is_memory (sym a) ∙ h in absurd (cc) }, tt);
  users = λ v.
      one_user (bytes_eq e.user v) e None None (session_of house v) (session_of house v)
      (λ yes'.
      let same : e.user ≡ v = (bytes_eq-Decides e.user v).0 yes' in
      let P : List ℕ → Type 0 = λ x. RunsAlone (session_of house x) (cond (not (is_memory e.reply)) (e ∷ []) []) (session_of house x) in
      let Q : Option Log → Type 0 = λ x. RunsAlone x (cond (not (is_memory e.reply)) (e ∷ []) []) x in
      subst P same (subst Q (sym none) refl))
      (λ no'. (refl, alone_silent (session_of house v) (λ log. session_replays house v log all)));
}

-- who is a stranger now was one before
pub was_none : (o new : Option Log) (es : List Event) → RunsAlone o es new → new ≡ None → o ≡ None
was_none None new es a e = refl
was_none (Some log) new es a e = let no' : Some a.0 ≡ None = sym a.1 ∙ e in absurd (cc)
