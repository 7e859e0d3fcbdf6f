-- A text has one list of lines, and a conversation one text.
use Rattle.std.proofs.Common.{◌≡◌, ℕ, List, [], ◌∷◌, ◌++◌, Option, Some, None, map, refl, sym, ap, ◌∙◌, subst, append_assoc, Bool, true, false, cond}
use Rattle.std.specs.Prelude.{flat_map}
use Rattle.std.specs.List.{AllByRecursion}
use Rattle.std.specs.Str.{bytes_eq}
use Rattle.std.proofs.lemmas.List.{map-append}
use Rattle.nesl_session_meaning.specs.State.{Log}
use Rattle.nesl_session_meaning.specs.Response.{Reply}
use Rattle.nesl_house.specs.Script.{Event, replies_of}
use Rattle.nesl_house.specs.Runs.{Account, roster_of, session_of}
use Rattle.nesl_line.specs.Lines.{HasNoFeed, with_feed, Splits, handed, AllLines, WholeLines}
use Rattle.nesl_line.proofs.Bytes.{last_line}
use Rattle.nesl_line.specs.Conversation.{IsUserLine, Turn, selects, stranger, nobody, says, Conversation, silence, goes_on}

-- bytes without an LF have none inside
no_feed : (bytes a b : List ℕ) → HasNoFeed bytes → bytes ≡ a ++ 10 ∷ b → ⊥
no_feed [] [] b h e = let no' : [] ≡ 10 ∷ b = e in cc
no_feed [] (x ∷ a) b h e = cc
no_feed (y ∷ ys) [] b h e = h.0 (let first : y ≡ 10 = cc in first)
no_feed (y ∷ ys) (x ∷ a) b h e = no_feed ys a b h.1 (let rest : ys ≡ a ++ 10 ∷ b = cc in rest)

-- two texts that are one begin with one line
first_line : (l m x y : List ℕ) → HasNoFeed l → HasNoFeed m → l ++ 10 ∷ x ≡ m ++ 10 ∷ y → (l ≡ m) × (x ≡ y)
first_line [] [] x y h k e = (refl, cc)
first_line [] (b ∷ m) x y h k e = absurd (k.0 (let first : b ≡ 10 = cc in first))
first_line (a ∷ l) [] x y h k e = absurd (h.0 (let first : a ≡ 10 = cc in first))
first_line (a ∷ l) (b ∷ m) x y h k e =
    let first : a ≡ b = cc in
    let rest = first_line l m x y h.1 k.1 (let r : l ++ 10 ∷ x ≡ m ++ 10 ∷ y = cc in r) in
    (λ i. first i ∷ rest.0 i, rest.1)

-- a line, and then the others
unwound : (l : List ℕ) (ls : List (List ℕ)) (r : List ℕ) → flat_map with_feed (l ∷ ls) ++ r ≡ l ++ 10 ∷ (flat_map with_feed ls ++ r)
unwound l ls r = append_assoc (with_feed l) (flat_map with_feed ls) r ∙ append_assoc l (10 ∷ []) (flat_map with_feed ls ++ r)

pub splits_one : (ls ms : List (List ℕ)) (r s : List ℕ) → AllByRecursion HasNoFeed ls → AllByRecursion HasNoFeed ms → HasNoFeed r → HasNoFeed s → flat_map with_feed ls ++ r ≡ flat_map with_feed ms ++ s → (ls ≡ ms) × (r ≡ s)
splits_one [] [] r s h k f g e = (refl, e)
splits_one [] (m ∷ ms) r s h k f g e = absurd (no_feed r m (flat_map with_feed ms ++ s) f (e ∙ unwound m ms s))
splits_one (l ∷ ls) [] r s h k f g e = absurd (no_feed s l (flat_map with_feed ls ++ r) g (sym e ∙ unwound l ls r))
splits_one (l ∷ ls) (m ∷ ms) r s h k f g e =
    let one = first_line l m (flat_map with_feed ls ++ r) (flat_map with_feed ms ++ s) h.0 k.0 (sym (unwound l ls r) ∙ e ∙ unwound m ms s) in
    let rest = splits_one ls ms r s h.1 k.1 f g one.1 in
    (λ i. one.0 i ∷ rest.0 i, rest.1)

pub split_once : (text : List ℕ) (ls ms : List (List ℕ)) (r s : List ℕ) → Splits text ls r → Splits text ms s → (ls ≡ ms) × (r ≡ s)
split_once text ls ms r s a b = splits_one ls ms r s a.each b.each a.open_end b.open_end (sym a.spelled ∙ b.spelled)

pub all_lines_one : (text : List ℕ) (lines others : List (List ℕ)) → AllLines text lines → AllLines text others → lines ≡ others
all_lines_one text lines others a b = let e = split_once text a.whole b.whole a.rest b.rest a.splits b.splits in a.are ∙ (λ i. map handed (e.0 i) ++ last_line (e.1 i)) ∙ sym b.are

pub whole_lines_one : (text : List ℕ) (lines others : List (List ℕ)) → WholeLines text lines → WholeLines text others → lines ≡ others
whole_lines_one text lines others a b = let e = split_once text a.whole b.whole a.rest b.rest a.splits b.splits in a.are ∙ ap (map handed) e.0 ∙ sym b.are

-- houses of one roster have the same strangers
stranger_here : (b : Bool) (log other : Log) (rest more : Option Log) → (rest ≡ None → more ≡ None) → cond b (Some log) rest ≡ None → cond b (Some other) more ≡ None
stranger_here true log other rest more f e = absurd (cc)
stranger_here false log other rest more f e = f e

stranger_both : (house other : List Account) (name : List ℕ) → roster_of house ≡ roster_of other → session_of house name ≡ None → session_of other name ≡ None
stranger_both [] [] name r e = refl
stranger_both [] (t ∷ ts) name r e = absurd (cc)
stranger_both (s ∷ ss) [] name r e = absurd (cc)
stranger_both (s ∷ ss) (t ∷ ts) name r e =
    let same : s.name ≡ t.name = cc in
    let rest : roster_of ss ≡ roster_of ts = cc in
    let P : List ℕ → Type 0 = λ x. cond (bytes_eq x name) (Some s.session) (session_of ss name) ≡ None in
    stranger_here (bytes_eq t.name name) s.session t.session (session_of ss name) (session_of ts name) (stranger_both ss ts name rest) (subst P same e)

one_name : (line n m : List ℕ) → IsUserLine line n → IsUserLine line m → n ≡ m
one_name line n m a b = let e = sym a.spelled ∙ b.spelled in cc

-- One line has one turn, up to the session's reply.
abbrev Same : List ℕ → List ℕ → List Event → List Event → Option (List ℕ) → Option (List ℕ) → List Reply → List Reply → Type 0
Same text told events said next then rest more = (text ≡ told) × (events ≡ said) × (next ≡ then) × (rest ≡ more)

turn_one : (house other : List Account) (who : Option (List ℕ)) (line text told : List ℕ) (events said : List Event) (next then : Option (List ℕ)) (rest more : List Reply) → roster_of house ≡ roster_of other → Turn house who line text events next → Turn other who line told said then
    → replies_of events ++ rest ≡ replies_of said ++ more → Same text told events said next then rest more
turn_one house other who line text told events said next then rest more r (selects n u f) (selects m v g) e = let same = one_name line n m u v in (refl, refl, ap (λ x. Some x) same, e)
turn_one house other who line text told events said next then rest more r (selects n u f) (stranger m v g) e =
    let same = one_name line n m u v in
    let P : List ℕ → Type 0 = λ x. session_of other x ≡ None in
    absurd (f (stranger_both other house n (sym r) (subst P (sym same) g)))
turn_one house other who line text told events said next then rest more r (selects n u f) (nobody v g) e = absurd (v n u)
turn_one house other who line text told events said next then rest more r (selects n u f) (says m reply v g) e = absurd (v n u)
turn_one house other who line text told events said next then rest more r (stranger n u f) (selects m v g) e =
    let same = one_name line n m u v in
    let P : List ℕ → Type 0 = λ x. session_of house x ≡ None in
    absurd (g (stranger_both house other m r (subst P same f)))
turn_one house other who line text told events said next then rest more r (stranger n u f) (stranger m v g) e = (refl, refl, refl, e)
turn_one house other who line text told events said next then rest more r (stranger n u f) (nobody v g) e = absurd (v n u)
turn_one house other who line text told events said next then rest more r (stranger n u f) (says m reply v g) e = absurd (v n u)
turn_one house other who line text told events said next then rest more r (nobody u f) (selects m v g) e = absurd (u m v)
turn_one house other who line text told events said next then rest more r (nobody u f) (stranger m v g) e = absurd (u m v)
turn_one house other who line text told events said next then rest more r (nobody u f) (nobody v g) e = (refl, refl, refl, e)
turn_one house other who line text told events said next then rest more r (nobody u f) (says m reply v g) e = let no' : None ≡ Some m = sym f ∙ g in absurd (cc)
turn_one house other who line text told events said next then rest more r (says n q u f) (selects m v g) e = absurd (u m v)
turn_one house other who line text told events said next then rest more r (says n q u f) (stranger m v g) e = absurd (u m v)
turn_one house other who line text told events said next then rest more r (says n q u f) (nobody v g) e = let no' : Some n ≡ None = sym f ∙ g in absurd (cc)
turn_one house other who line text told events said next then rest more r (says n q u f) (says m reply v g) e =
    let both : Some n ≡ Some m = sym f ∙ g in
    let user : n ≡ m = cc in
    let same : q ≡ reply = cc in
    let others : rest ≡ more = cc in
    (ap (λ (x : Reply). x.bytes) same, λ i. record { user = user i; line = line; reply = same i } ∷ [], ap (λ x. Some x) user, others)

pub conversation_one : (house other : List Account) (who last final : Option (List ℕ)) (lines texts others : List (List ℕ)) (events said : List Event) → roster_of house ≡ roster_of other → Conversation house who lines texts events last → Conversation other who lines others said final
    → replies_of events ≡ replies_of said → (texts ≡ others) × (events ≡ said) × (last ≡ final)
conversation_one house other who last final lines texts others events said r (silence w) (silence v) e = (refl, refl, refl)
conversation_one house other who last final lines texts others events said r (goes_on w next l line text ls ts es more t c) (goes_on v then m line' told ls' us fs less s d) e =
    let parts : replies_of es ++ replies_of more ≡ replies_of fs ++ replies_of less = sym (map-append (λ (x : Event). x.reply) es more) ∙ e ∙ map-append (λ (x : Event). x.reply) fs less in
    let one = turn_one house other who line text told es fs next then (replies_of more) (replies_of less) r t s parts in
    let P : Option (List ℕ) → Type 0 = λ x. Conversation other x ls us less final in
    let rest = conversation_one house other next last final ls ts us more less r c (subst P (sym one.2) d) one.3 in
    (λ i. one.0 i ∷ rest.0 i, λ i. one.1 i ++ rest.1 i, rest.2)
