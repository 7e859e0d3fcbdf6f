-- A house has one sequence of replies to a text.
use Rattle.std.proofs.Common.{◌≡◌, ◌≢◌, ℕ, List, [], ◌∷◌, ◌++◌, Bool, true, false, not, cond, Option, Some, None, refl, sym, ap, ◌∙◌, subst}
use Rattle.std.specs.Prelude.{filter}
use Rattle.std.specs.List.{AllByRecursion}
use Rattle.std.specs.Str.{bytes_eq}
use Rattle.std.proofs.lemmas.Slice.Eq.{bytes_eq-Decides}
use Rattle.nesl_session_meaning.specs.State.{Log}
use Rattle.nesl_session_meaning.specs.Response.{is_memory}
use Rattle.nesl_house.specs.Script.{Event, lines_of, replies_of, kept_events}
use Rattle.nesl_house.specs.Laws.{OwnLinesDecide}
use Rattle.nesl_house.specs.Runs.{Account, session_of}
use Rattle.nesl_line.specs.Conversation.{IsUserLine, Turn, selects, stranger, nobody, says, Conversation, silence, goes_on}
use Rattle.nesl_line.specs.Exchange.{text_of}
use Rattle.nesl_line.specs.Laws.{HadMemory, OneAnswer}
use Rattle.nesl_line.proofs.Unique.{all_lines_one, conversation_one}

-- the same users said the same lines
abbrev Alike : List Event → List Event → Type 0
Alike [] [] = Unit {0}
Alike (e ∷ es) (f ∷ fs) = (e.user ≡ f.user) × (e.line ≡ f.line) × Alike es fs
Alike [] (f ∷ fs) = ⊥
Alike (e ∷ es) [] = ⊥

alike_append : (es fs more less : List Event) → Alike es fs → Alike more less → Alike (es ++ more) (fs ++ less)
alike_append [] [] more less a b = b
alike_append [] (f ∷ fs) more less a b = absurd a
alike_append (e ∷ es) [] more less a b = absurd a
alike_append (e ∷ es) (f ∷ fs) more less a b = (a.0, a.1, alike_append es fs more less a.2 b)

name_of : (line n m : List ℕ) → IsUserLine line n → IsUserLine line m → n ≡ m
name_of line n m a b = let e = sym a.spelled ∙ b.spelled in cc

-- what is said for a line, but for the reply, and who is selected then
turn_alike : (house : List Account) (who : Option (List ℕ)) (line text told : List ℕ) (events said : List Event) (next then : Option (List ℕ)) → Turn house who line text events next → Turn house who line told said then → Alike events said × (next ≡ then)
turn_alike house who line text told events said next then (selects n u f) (selects m v g) = (tt, ap (λ x. Some x) (name_of line n m u v))
turn_alike house who line text told events said next then (selects n u f) (stranger m v g) = let P : List ℕ → Type 0 = λ x. session_of house x ≡ None in absurd (f (subst P (sym (name_of line n m u v)) g))
turn_alike house who line text told events said next then (selects n u f) (nobody v g) = absurd (v n u)
turn_alike house who line text told events said next then (selects n u f) (says m reply v g) = absurd (v n u)
turn_alike house who line text told events said next then (stranger n u f) (selects m v g) = let P : List ℕ → Type 0 = λ x. session_of house x ≡ None in absurd (g (subst P (name_of line n m u v) f))
turn_alike house who line text told events said next then (stranger n u f) (stranger m v g) = (tt, refl)
turn_alike house who line text told events said next then (stranger n u f) (nobody v g) = absurd (v n u)
turn_alike house who line text told events said next then (stranger n u f) (says m reply v g) = absurd (v n u)
turn_alike house who line text told events said next then (nobody u f) (selects m v g) = absurd (u m v)
turn_alike house who line text told events said next then (nobody u f) (stranger m v g) = absurd (u m v)
turn_alike house who line text told events said next then (nobody u f) (nobody v g) = (tt, refl)
turn_alike house who line text told events said next then (nobody u f) (says m reply v g) = let no' : None ≡ Some m = sym f ∙ g in absurd (cc)
turn_alike house who line text told events said next then (says n q u f) (selects m v g) = absurd (u m v)
turn_alike house who line text told events said next then (says n q u f) (stranger m v g) = absurd (u m v)
turn_alike house who line text told events said next then (says n q u f) (nobody v g) = let no' : None ≡ Some n = sym g ∙ f in absurd (cc)
turn_alike house who line text told events said next then (says n q u f) (says m reply v g) =
    let both : Some n ≡ Some m = sym f ∙ g in
    let user : n ≡ m = cc in
    ((user, refl, tt), both)

conversation_alike : (house : List Account) (who last final : Option (List ℕ)) (lines texts others : List (List ℕ)) (events said : List Event) → Conversation house who lines texts events last → Conversation house who lines others said final → Alike events said
conversation_alike house who last final lines texts others events said (silence w) (silence v) = tt
conversation_alike house who last final lines texts others events said (goes_on w next l line text ls ts es more t c) (goes_on v then m line' told ls' us fs less s d) =
    let one = turn_alike house who line text told es fs next then t s in
    let P : Option (List ℕ) → Type 0 = λ x. Conversation house x ls us less final in
    alike_append es fs more less one.0 (conversation_alike house next last final ls ts us more less c (subst P (sym one.1) d))

-- each of these users has a session
abbrev Known : List Account → List Event → Type 0
Known house events = AllByRecursion (λ (e : Event). session_of house e.user ≢ None) events

abbrev Seated : List Account → Option (List ℕ) → Type 0
Seated house who = (user : List ℕ) → who ≡ Some user → session_of house user ≢ None

known_append : (house : List Account) (es fs : List Event) → Known house es → Known house fs → Known house (es ++ fs)
known_append house [] fs a b = b
known_append house (e ∷ es) fs a b = (a.0, known_append house es fs a.1 b)

turn_known : (house : List Account) (who : Option (List ℕ)) (line text : List ℕ) (events : List Event) (next : Option (List ℕ)) → Seated house who → Turn house who line text events next → Known house events × Seated house next
turn_known house who line text events next k (selects n u f) =
    (tt, λ user e. let same : n ≡ user = cc in let P : List ℕ → Type 0 = λ x. session_of house x ≢ None in subst P same f)
turn_known house who line text events next k (stranger n u f) = (tt, λ user e. absurd (cc))
turn_known house who line text events next k (nobody u f) = (tt, λ user e. absurd (cc))
turn_known house who line text events next k (says n q u f) = ((k n f, tt), λ user e. k user (f ∙ e))

conversation_known : (house : List Account) (who last : Option (List ℕ)) (lines texts : List (List ℕ)) (events : List Event) → Seated house who → Conversation house who lines texts events last → Known house events
conversation_known house who last lines texts events k (silence w) = tt
conversation_known house who last lines texts events k (goes_on w next l line text ls ts es more t c) =
    let one = turn_known house who line text es next k t in
    known_append house es more one.0 (conversation_known house next last ls ts more one.1 c)

-- an event more, among those of a user that were kept
kept_here : (b : Bool) (e : Event) (own : List Event) → is_memory e.reply ≡ false → filter (λ (x : Event). not (is_memory x.reply)) (cond b (e ∷ own) own)
    ≡ cond b (e ∷ filter (λ (x : Event). not (is_memory x.reply)) own) (filter (λ (x : Event). not (is_memory x.reply)) own)
kept_here true e own h = ap (λ x. cond (not x) (e ∷ filter (λ (y : Event). not (is_memory y.reply)) own) (filter (λ (y : Event). not (is_memory y.reply)) own)) h
kept_here false e own h = refl

kept_cons : (user : List ℕ) (e : Event) (es : List Event) → is_memory e.reply ≡ false → kept_events user (e ∷ es) ≡ cond (bytes_eq e.user user) (e ∷ kept_events user es) (kept_events user es)
kept_cons user e es h = kept_here (bytes_eq e.user user) e (filter (λ (x : Event). bytes_eq x.user user) es) h

lines_same : (b : Bool) (e f : Event) (xs ys : List Event) → e.line ≡ f.line → lines_of xs ≡ lines_of ys → lines_of (cond b (e ∷ xs) xs) ≡ lines_of (cond b (f ∷ ys) ys)
lines_same true e f xs ys h k = λ i. h i ∷ k i
lines_same false e f xs ys h k = k

rest_same : (b : Bool) (e f : Event) (xs ys : List Event) → replies_of (cond b (e ∷ xs) xs) ≡ replies_of (cond b (f ∷ ys) ys) → replies_of xs ≡ replies_of ys
rest_same true e f xs ys h = let both : e.reply ∷ replies_of xs ≡ f.reply ∷ replies_of ys = h in let rest : replies_of xs ≡ replies_of ys = cc in rest
rest_same false e f xs ys h = h

first_same : (b : Bool) (e f : Event) (xs ys : List Event) → b ≡ true → replies_of (cond b (e ∷ xs) xs) ≡ replies_of (cond b (f ∷ ys) ys) → e.reply ≡ f.reply
first_same true e f xs ys t h = let both : e.reply ∷ replies_of xs ≡ f.reply ∷ replies_of ys = h in let first : e.reply ≡ f.reply = cc in first
first_same false e f xs ys t h = absurd (cc)

-- a user's kept lines are the same
kept_lines : (user : List ℕ) (es fs : List Event) → Alike es fs → HadMemory es → HadMemory fs → lines_of (kept_events user es) ≡ lines_of (kept_events user fs)
kept_lines user [] [] a h k = refl
kept_lines user [] (f ∷ fs) a h k = absurd a
kept_lines user (e ∷ es) [] a h k = absurd a
kept_lines user (e ∷ es) (f ∷ fs) a h k =
    ap lines_of (kept_cons user e es h.0) ∙ lines_same (bytes_eq e.user user) e f (kept_events user es) (kept_events user fs) a.1 (kept_lines user es fs a.2 h.1 k.1)
    ∙ ap (λ u. lines_of (cond (bytes_eq u user) (f ∷ kept_events user fs) (kept_events user fs))) a.0 ∙ ap lines_of (sym (kept_cons user f fs k.0))

-- each user got the same replies
abbrev SameReplies : List Account → List Event → List Event → Type 0
SameReplies house es fs = (user : List ℕ) → session_of house user ≢ None → replies_of (kept_events user es) ≡ replies_of (kept_events user fs)

kept_both : (user : List ℕ) (e f : Event) (es fs : List Event) → e.user ≡ f.user → is_memory e.reply ≡ false → is_memory f.reply ≡ false → replies_of (kept_events user (e ∷ es)) ≡ replies_of (kept_events user (f ∷ fs))
    → replies_of (cond (bytes_eq e.user user) (e ∷ kept_events user es) (kept_events user es)) ≡ replies_of (cond (bytes_eq e.user user) (f ∷ kept_events user fs) (kept_events user fs))
kept_both user e f es fs u h k s =
    ap replies_of (sym (kept_cons user e es h)) ∙ s ∙ ap replies_of (kept_cons user f fs k) ∙ ap (λ x. replies_of (cond (bytes_eq x user) (f ∷ kept_events user fs) (kept_events user fs))) (sym u)

-- then all replies are the same
replies_same : (house : List Account) (es fs : List Event) → Alike es fs → HadMemory es → HadMemory fs → Known house es → SameReplies house es fs → replies_of es ≡ replies_of fs
replies_same house [] [] a h k known same = refl
replies_same house [] (f ∷ fs) a h k known same = absurd a
replies_same house (e ∷ es) [] a h k known same = absurd a
replies_same house (e ∷ es) (f ∷ fs) a h k known same =
    let own = kept_both e.user e f es fs a.0 h.0 k.0 (same e.user known.0) in
    let first : e.reply ≡ f.reply = first_same (bytes_eq e.user e.user) e f (kept_events e.user es) (kept_events e.user fs) ((bytes_eq-Decides e.user e.user).1 refl) own in
    let rest : replies_of es ≡ replies_of fs =
    replies_same house es fs a.2 h.1 k.1 known.1
    (λ user there. rest_same (bytes_eq e.user user) e f (kept_events user es) (kept_events user fs) (kept_both user e f es fs a.0 h.0 k.0 (same user there))) in
    λ i. first i ∷ rest i

there_is : {A : Type 0} (P : Type 0) (o known : Option A) → o ≡ known → o ≢ None → ((x : A) → o ≡ Some x → P) → P
there_is P o None e n f = absurd (n e)
there_is P o (Some x) e n f = f x e

pub one_answer : OwnLinesDecide → OneAnswer
one_answer decide house one two text replies others a b h k =
    let es = a.answered.events in
    let fs = b.answered.events in
    let C : List (List ℕ) → Type 0 = λ x. Conversation house None x b.texts fs b.answered.who in
    let said = subst C (all_lines_one text b.lines a.lines b.all a.all) b.answered.said in
    let alike = conversation_alike house None a.answered.who b.answered.who a.lines a.texts b.texts es fs a.answered.said said in
    let known = conversation_known house None a.answered.who a.lines a.texts es (λ user e. absurd (cc)) a.answered.said in
    let each : SameReplies house es fs =
    λ user there.
    there_is (replies_of (kept_events user es) ≡ replies_of (kept_events user fs)) (session_of house user) (session_of house user) refl there
    (λ (session : Log) e. (decide house house one two es fs user session a.answered.runs b.answered.runs e e (kept_lines user es fs alike h k)).0) in
    let same = replies_same house es fs alike h k known each in
    let texts = (conversation_one house house None a.answered.who b.answered.who a.lines a.texts b.texts es fs refl a.answered.said said same).0 in (
      a.joined ∙ ap text_of texts ∙ sym b.joined,
      λ user session e. (decide house house one two es fs user session a.answered.runs b.answered.runs e e (kept_lines user es fs alike h k)).1,
    )
