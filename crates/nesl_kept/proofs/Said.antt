-- Lines that are said again, one after another.
use Rattle.std.proofs.Common.{◌≡◌, ◌≢◌, Bool, true, append-nil, append_assoc, Option, Some, None, Result, Ok, Err, ◌+◌, ◌<◌, ◌≤◌, ◌⊎◌, inl, inr, ℕ, List, [], ◌∷◌, ◌++◌, length, map, take, drop, get_or, Vec, refl, sym, ap, ◌∙◌, subst, arith, add-one}
use Rattle.std.proofs.Math.Seq.{drop-cons}
use Rattle.std.proofs.lemmas.List.{take_more, take-append-drop, map-append, length-map, length-take-le}
use Rattle.std.specs.declared.alloc.Global.{Global}
use Rattle.nesl_session_meaning.specs.declared.limits.Limits.{Limits}
use Rattle.nesl_session_meaning.specs.State.{State, Log, empty_log}
use Rattle.nesl_session_meaning.specs.Response.{Reply}
use Rattle.nesl_session_meaning.specs.Solo.{Replays, SessionAnswers}
use Rattle.nesl_session_meaning.specs.Laws.{GoesOn}
use Rattle.std.specs.Bool.{⊤}
use Rattle.std.specs.Result.{IfOk, IfErr}
use Rattle.std.specs.Io.KnownBytes.{Appends}
use Rattle.nesl_line.specs.Steps.{Sent}
use Rattle.nesl_line.proofs.Bytes.{appends_none}
use Rattle.nesl_keep.specs.Scroll.{kept}
use Rattle.nesl_line.specs.declared.keeper.Mismatch.TheVariants.{Head, Line}
use Rattle.nesl_keeper.specs.Files.{head_text, with_rows, IsNoHead}
use Rattle.nesl_keeper.specs.Steps.{IsUnstored}
use Rattle.nesl_keeper.proofs.Rows.{Text, texts, rest_of, uncons, with_more, with_none}
use Rattle.nesl_kept.specs.declared.again.Setback.{Setback}
use Rattle.nesl_kept.specs.declared.again.Setback.TheVariants.{Memory, Unheard, Misfit}
use Rattle.nesl_kept.specs.Again as again
use Rattle.nesl_kept.specs.Again.{Heard, Writes, SaidAgain, Stops, ComesBack, StaysAway, IsBlank, begun}

-- two texts were written, one after the other
appends_both : (a b c : Option (List ℕ)) (x y : List ℕ) → Appends a b x → Appends b c y → Appends a c (x ++ y)
appends_both None b c x y p q = tt
appends_both (Some xs) None c x y p q = absurd p
appends_both (Some xs) (Some ys) None x y p q = absurd q
appends_both (Some xs) (Some ys) (Some zs) x y p q = q ∙ ap (λ (w : List ℕ). w ++ y) p ∙ append_assoc xs x y

-- nothing was told yet
pub writes_none : (tells : List ℕ → Reply → List ℕ → Type 0) (held : Option (List ℕ)) → Writes tells held held [] []
writes_none tells held = ([], again.none, appends_none held)

-- one more text was written
pub writes_more : (tells : List ℕ → Reply → List ℕ → Type 0) (a b c : Option (List ℕ)) (lines : List (List ℕ)) (replies : List Reply) (line : List ℕ) (reply : Reply) → Writes tells a b lines replies
    → (text : List ℕ) × tells line reply text × Appends b c text → Writes tells a c (lines ++ line ∷ []) (replies ++ reply ∷ [])
writes_more tells a b c lines replies line reply (told, is, wrote) (text, tell, more) = (told ++ text, again.one_more lines replies told line reply text is tell, appends_both a b c told text wrote more)

-- all bytes were written
pub sent_all : (held held' : Option (List ℕ)) (bytes : List ℕ) (well : Bool) → Sent held held' bytes well → well ≡ true → Appends held held' bytes
sent_all held held' bytes well sent went = subst (Appends held held') (sym (sent.split ∙ ap (λ (l : List ℕ). sent.front ++ l) (sent.all went) ∙ append-nil sent.front)) sent.appended

-- before the first line
pub said_none : (heard : Heard) (log : Log) (s : State) → Replays log s → heard [] [] → SaidAgain heard log [] [] log
said_none heard log s r h = record {
  answered = record { before = s; after = s; starts = r; run = refl; ends = r; limits = refl };
  stored = sym (with_none log);
  heard = h;
}

-- one more line
said_more : (heard more : Heard) (old mid new : Log) (lines : List (List ℕ)) (replies : List Reply) (line : List ℕ) (reply : Reply) → GoesOn → SaidAgain heard old lines replies mid → SessionAnswers mid (line ∷ []) (reply ∷ []) new → new ≡ with_rows mid (line ∷ [])
    → more (lines ++ line ∷ []) (replies ++ reply ∷ []) → SaidAgain more old (lines ++ line ∷ []) (replies ++ reply ∷ []) new
said_more heard more old mid new lines replies line reply goes_on said answered stored h = record {
  answered = goes_on old mid new lines (line ∷ []) replies (reply ∷ []) said.answered answered;
  stored = stored ∙ ap (λ (log : Log). with_rows log (line ∷ [])) said.stored ∙ with_more old lines (line ∷ []);
  heard = h;
}

-- the texts until a place, and the one there
pub texts_more : (lines : List Text) (i : ℕ) (line : Text) (bytes : List ℕ) → i < length lines → line ≡ get_or lines i line → bytes ≡ line.items → texts (take i lines) ++ bytes ∷ [] ≡ texts (take (i + 1) lines)
texts_more lines i line bytes few at is =
    ap (λ (b : List ℕ). texts (take i lines) ++ b ∷ []) (is ∙ ap (λ (v : Text). v.items) at)
    ∙ sym (map-append (λ (v : Text). v.items) (take i lines) (get_or lines i line ∷ []))
    ∙ sym (ap texts (take_more lines i line few))

-- the texts until a place, the one there, and those after it
texts_split : (lines : List Text) (i : ℕ) (line : Text) (bytes : List ℕ) → i < length lines → line ≡ get_or lines i line → bytes ≡ line.items → texts (take i lines) ++ bytes ∷ texts (drop (i + 1) lines) ≡ texts lines
texts_split lines i line bytes few at is =
    ap (λ (b : List ℕ). texts (take i lines) ++ b ∷ texts (drop (i + 1) lines)) (is ∙ ap (λ (v : Text). v.items) at)
    ∙ sym (map-append (λ (v : Text). v.items) (take i lines) (get_or lines i line ∷ drop (i + 1) lines))
    ∙ ap texts (ap (λ (vs : List Text). take i lines ++ vs) (ap (λ (n : ℕ). get_or lines i line ∷ drop n lines) (add-one i) ∙ sym (drop-cons lines i line few)) ∙ take-append-drop i lines)

-- the line at a place was said again too
pub said_next : (heard more : Heard) (old mid new : Log) (lines : List Text) (i : ℕ) (line : Text) (bytes : List ℕ) (replies : List Reply) (reply : Reply) → i < length lines → line ≡ get_or lines i line → bytes ≡ line.items → GoesOn
    → SaidAgain heard old (texts (take i lines)) replies mid → SessionAnswers mid (bytes ∷ []) (reply ∷ []) new → new ≡ with_rows mid (bytes ∷ []) → more (texts (take i lines) ++ bytes ∷ []) (replies ++ reply ∷ [])
    → (rs : List Reply) × SaidAgain more old (texts (take (i + 1) lines)) rs new
said_next heard more old mid new lines i line bytes replies reply few at is goes_on said answered stored h =
    let P : List (List ℕ) → Type 0 = λ ls. SaidAgain more old ls (replies ++ reply ∷ []) new in
    (replies ++ reply ∷ [], subst P (texts_more lines i line bytes few at is) (said_more heard more old mid new (texts (take i lines)) replies bytes reply goes_on said answered stored h))

-- the line at a place isn't stored
pub stops_at : (heard : Heard) (old mid new : Log) (lines : List Text) (i : ℕ) (line : Text) (bytes : List ℕ) (replies : List Reply) → i < length lines → line ≡ get_or lines i line → bytes ≡ line.items
    → SaidAgain heard old (texts (take i lines)) replies mid → IsUnstored mid bytes new → Stops heard old (texts lines) (Misfit (Line (i + 2)))
stops_at heard old mid new lines i line bytes replies few at is said unstored =
    let P : List (List ℕ) → Type 0 = λ ls. Stops heard old ls (Misfit (Line (i + 2))) in
    let Q : ℕ → Type 0 = λ n. Stops heard old (texts (take i lines) ++ bytes ∷ texts (drop (i + 1) lines)) (Misfit (Line (n + 2))) in
    let count : length (texts (take i lines)) ≡ i = omega (arith, few, length-map (take i lines) (λ (v : Text). v.items), length-take-le i lines (omega (arith, few))) in
    subst P (texts_split lines i line bytes few at is) (subst Q count (again.at_a_line (texts (take i lines)) replies mid new bytes (texts (drop (i + 1) lines)) said unstored))

-- the session that a head names has nothing stored
pub is_begun : (limits : Limits) (head : List ℕ) (s : Log) → head_text s.base s.cleared ≡ head → s.lines ≡ [] → s.limits ≡ limits → (base : ℕ) × (cleared : ℕ) × (head_text base cleared ≡ head) × (s ≡ begun limits base cleared)
is_begun limits head s is none same = (
  s.base,
  s.cleared,
  is,
  ap (λ (l : Limits). record s { limits = l }) same ∙ ap (λ (ls : List (List ℕ)). record { limits = limits; base = s.base; cleared = s.cleared; lines = ls }) none,
)

-- the lines of a file whose head was taken
rows_are : (file : List ℕ) (rows : List Text) (head : Text) (bytes named : List ℕ) → texts rows ≡ kept file → 1 ≤ length rows → head ≡ get_or rows 0 head → bytes ≡ head.items → named ≡ bytes → kept file ≡ named ∷ texts (rest_of rows)
rows_are file rows head bytes named same long at is e = sym same ∙ ap texts (uncons head rows long at) ∙ ap (λ (h : List ℕ). h ∷ texts (rest_of rows)) (sym (e ∙ is))

no_texts : (rows : List Text) → length rows ≡ 0 → texts rows ≡ []
no_texts [] none = refl
no_texts (row ∷ rows) none = absurd (omega (arith, none))

-- a file without a line
pub back_anew : (limits : Limits) (hears : Heard) (file : List ℕ) (r : Result Log Setback) → hears [] [] → IfOk r (λ s. (s ≡ empty_log limits) × IsBlank file) → IfOk r (ComesBack limits hears file)
back_anew limits hears file (Ok s) h is = subst (ComesBack limits hears file) (sym is.0) (again.anew is.1 h)
back_anew limits hears file (Err e) h is = tt

pub away_anew : (limits : Limits) (hears : Heard) (file : List ℕ) (rows : List Text) (r : Result Log Setback) → texts rows ≡ kept file → length rows ≡ 0 → hears [] []
    → IfErr r (λ e. (e ≡ Memory) ⊎ ((e ≡ Misfit Head) × (IsBlank file → ⊥))) → IfErr r (StaysAway limits hears file)
away_anew limits hears file rows (Ok s) same none h is = tt
away_anew limits hears file rows (Err e) same none h (inl memory) = subst (StaysAway limits hears file) (sym memory) again.no_memory_first
away_anew limits hears file rows (Err e) same none h (inr head) =
    subst (StaysAway limits hears file) (sym head.0) (again.at_no_line (sym same ∙ no_texts rows none) head.1 h)

-- a file whose lines were said again
pub back_again : (limits : Limits) (hears : Heard) (file : List ℕ) (rows : List Text) (head : Text) (bytes : List ℕ) (start session : Log) → texts rows ≡ kept file → 1 ≤ length rows → head ≡ get_or rows 0 head → bytes ≡ head.items
    → (base : ℕ) × (cleared : ℕ) × (head_text base cleared ≡ bytes) × (start ≡ begun limits base cleared)
    → (replies : List Reply) × SaidAgain hears start (texts (rest_of rows)) replies session → ComesBack limits hears file session
back_again limits hears file rows head bytes start session same long at is (base, cleared, named, begins) (replies, said) =
    let Q : Log → Type 0 = λ log. SaidAgain hears log (texts (rest_of rows)) replies session in
    again.again base cleared (texts (rest_of rows)) replies session (rows_are file rows head bytes (head_text base cleared) same long at is named) (subst Q begins said)

-- a file whose head isn't one
pub away_first : (limits : Limits) (hears : Heard) (file : List ℕ) (rows : List Text) (head : Text) (bytes : List ℕ) (e : Setback) → texts rows ≡ kept file → 1 ≤ length rows → head ≡ get_or rows 0 head → bytes ≡ head.items → hears [] []
    → (e ≡ Memory) ⊎ ((e ≡ Misfit Head) × IsNoHead limits bytes) → StaysAway limits hears file e
away_first limits hears file rows head bytes e same long at is h (inl memory) = subst (StaysAway limits hears file) (sym memory) again.no_memory_first
away_first limits hears file rows head bytes e same long at is h (inr other) =
    subst (StaysAway limits hears file) (sym other.0) (again.at_the_head bytes (texts (rest_of rows)) (rows_are file rows head bytes bytes same long at is refl) other.1 h)

-- a file of which a later line isn't stored
pub away_later : (limits : Limits) (hears : Heard) (file : List ℕ) (rows : List Text) (head : Text) (bytes : List ℕ) (start : Log) (e : Setback) → texts rows ≡ kept file → 1 ≤ length rows → head ≡ get_or rows 0 head → bytes ≡ head.items
    → (base : ℕ) × (cleared : ℕ) × (head_text base cleared ≡ bytes) × (start ≡ begun limits base cleared)
    → Stops hears start (texts (rest_of rows)) e → StaysAway limits hears file e
away_later limits hears file rows head bytes start e same long at is (base, cleared, named, begins) stops =
    let Q : Log → Type 0 = λ log. Stops hears log (texts (rest_of rows)) e in
    again.later base cleared (texts (rest_of rows)) e (rows_are file rows head bytes (head_text base cleared) same long at is named) (subst Q begins stops)

-- where nothing is asked of what was heard
said_any : (hears : Heard) (old new : Log) (lines : List (List ℕ)) (replies : List Reply) → SaidAgain hears old lines replies new → SaidAgain (λ _ _. ⊤) old lines replies new
said_any hears old new lines replies said = record { answered = said.answered; stored = said.stored; heard = tt }

pub back_any : (limits : Limits) (hears : Heard) (file : List ℕ) (session : Log) → ComesBack limits hears file session → ComesBack limits (λ _ _. ⊤) file session
back_any limits hears file session (again.anew blank h) = again.anew blank tt
back_any limits hears file session (again.again base cleared lines replies session' is said) = again.again base cleared lines replies session' is (said_any hears (begun limits base cleared) session' lines replies said)

stops_any : (hears : Heard) (old : Log) (lines : List (List ℕ)) (e : Setback) → Stops hears old lines e → Stops (λ _ _. ⊤) old lines e
stops_any hears old lines e (again.at_a_line first replies mid after line more said other) = again.at_a_line first replies mid after line more (said_any hears old mid first replies said) other
stops_any hears old lines e (again.no_memory all) = again.no_memory all
stops_any hears old lines e (again.unheard all why) = again.unheard all why

pub away_any : (limits : Limits) (hears : Heard) (file : List ℕ) (e : Setback) → StaysAway limits hears file e → StaysAway limits (λ _ _. ⊤) file e
away_any limits hears file e (again.at_no_line none other h) = again.at_no_line none other tt
away_any limits hears file e (again.at_the_head head more is no' h) = again.at_the_head head more is no' tt
away_any limits hears file e (again.later base cleared lines setback is stops) = again.later base cleared lines setback is (stops_any hears (begun limits base cleared) lines setback stops)
away_any limits hears file e again.no_memory_first = again.no_memory_first

abbrev err_or : {T E : Type 0} → E → Result T E → E
err_or d (Ok x) = d
err_or d (Err e) = e

-- one error is one fault
pub same_err : {T E : Type 0} (x y : E) → ◌≡◌ {A = Result T E} (Err x) (Err y) → x ≡ y
same_err {T} {E} x y e = ap (λ (r : Result T E). err_or x r) e
