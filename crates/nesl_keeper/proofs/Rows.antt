-- What a line does to the rows of a session.
use Rattle.std.proofs.Common.{◌≡◌, ◌≢◌, ◌⊎◌, inl, inr, ℕ, Bool, true, false, ◌-◌, ◌≤◌, List, [], ◌∷◌, ◌++◌, length, map, take, drop, get_or, Vec, refl, sym, ◌∙◌, ap, arith, length-append, append_assoc, append-nil}
use Rattle.std.proofs.lemmas.List.{take_all}
use Rattle.std.specs.Prelude.{Result, Ok, Err, OnOk}
use Rattle.std.specs.declared.alloc.Global.{Global}
use Rattle.nesl_session_meaning.specs.State.{Log}
use Rattle.std.specs.Bool.{MatchBool}
use Rattle.nesl_session_meaning.specs.Response.{Reply, no_memory, is_memory}
use Rattle.nesl_session_meaning.specs.Solo.{SessionAnswers, Responds}
use Rattle.nesl_session_meaning.specs.Laws.{Stores, nothing, the_line, reset}
use Rattle.nesl_house.specs.Renewal.{renewed}
use Rattle.nesl_keeper.specs.Files.{head_text, rows_of, with_rows}
use Rattle.nesl_keeper.specs.Steps.{IsUnstored}

pub rows_stored : (old new : Log) (line : List ℕ) → Stores old line new → new.cleared ≡ old.cleared → length new.lines ≢ length old.lines → rows_of old ++ line ∷ [] ≡ rows_of new
rows_stored old new line nothing same other = absurd (other refl)
rows_stored old new line the_line same other = refl
rows_stored old new line (reset base) same other = absurd (omega (arith, same))

pub rows_anew : (old new : Log) (line : List ℕ) → Stores old line new → new.cleared ≢ old.cleared → head_text new.base new.cleared ∷ [] ≡ rows_of new
rows_anew old new line nothing other = absurd (other refl)
rows_anew old new line the_line other = absurd (other refl)
rows_anew old new line (reset base) other = refl

-- what follows where something went well
pub on_ok_map : {A E T U : Type 0} (result : Result A E) → OnOk result T → (T → U) → OnOk result U
on_ok_map (Ok x) t leads = leads t
on_ok_map (Err e) t leads = tt

-- a session that began in the place of another one has stored nothing
pub rows_renewed : (old new : Log) → new ≡ renewed old → head_text new.base new.cleared ∷ [] ≡ rows_of new
rows_renewed old new is = ap (λ (lines : List (List ℕ)). head_text new.base new.cleared ∷ lines) (sym (ap (λ (log : Log). log.lines) is))

pub rows_same : (old new : Log) (line : List ℕ) → Stores old line new → new.cleared ≡ old.cleared → length new.lines ≡ length old.lines → rows_of old ≡ rows_of new
rows_same old new line nothing same count = refl
rows_same old new line the_line same count = absurd (omega (arith, count, length-append old.lines (line ∷ [])))
rows_same old new line (reset base) same count = absurd (omega (arith, same))

-- a line was stored
pub stored : (old new : Log) (line : List ℕ) → Stores old line new → new.cleared ≡ old.cleared → length new.lines ≢ length old.lines → new ≡ with_rows old (line ∷ [])
stored old new line nothing same other = absurd (other refl)
stored old new line the_line same other = refl
stored old new line (reset base) same other = absurd (omega (arith, same))

-- a line whose answer isn't that of memory that ran out was answered by a step
answered_by : (b : Bool) (old new : Log) (line : List ℕ) (reply : Reply) → MatchBool b ((reply ≡ no_memory) × (new ≡ old)) (SessionAnswers old (line ∷ []) (reply ∷ []) new) → reply.fault ≢ no_memory.fault → SessionAnswers old (line ∷ []) (reply ∷ []) new
answered_by true old new line reply r other = absurd (other (ap (λ (it : Reply). it.fault) r.0))
answered_by false old new line reply r other = r

pub answered : (old new : Log) (line : List ℕ) (reply : Reply) → Responds old line reply new → reply.fault ≢ no_memory.fault → SessionAnswers old (line ∷ []) (reply ∷ []) new
answered old new line reply r other = answered_by (is_memory reply) old new line reply r other

-- it isn't stored if as many lines are stored as before, or if other lines were cleared
not_with_rows : (old new : Log) (line : List ℕ) → (length new.lines ≡ length old.lines) ⊎ (new.cleared ≢ old.cleared) → new ≢ with_rows old (line ∷ [])
not_with_rows old new line (inl same) is = omega (arith, same, ap (λ (log : Log). length log.lines) is, length-append old.lines (line ∷ []))
not_with_rows old new line (inr other) is = other (ap (λ (log : Log). log.cleared) is)

pub unstored : (old new : Log) (line : List ℕ) (reply : Reply) → Responds old line reply new → reply.fault ≢ no_memory.fault → (length new.lines ≡ length old.lines) ⊎ (new.cleared ≢ old.cleared) → IsUnstored old line new
unstored old new line reply r other kept = record { reply = reply; answered = answered old new line reply r other; other = not_with_rows old new line kept }

pub with_more : (log : Log) (lines more : List (List ℕ)) → with_rows (with_rows log lines) more ≡ with_rows log (lines ++ more)
with_more log lines more = ap (λ (ls : List (List ℕ)). record log { lines = ls }) (append_assoc log.lines lines more)

pub with_none : (log : Log) → with_rows log [] ≡ log
with_none log = ap (λ (ls : List (List ℕ)). record log { lines = ls }) (append-nil log.lines)

-- a session in which nothing is stored, and then these lines
pub rows_of_all : (log : Log) (head : List ℕ) (lines : List (List ℕ)) → head_text log.base log.cleared ≡ head → log.lines ≡ [] → rows_of (with_rows log lines) ≡ head ∷ lines
rows_of_all log head lines is none =
    ap (λ (h : List ℕ). h ∷ (log.lines ++ lines)) is ∙ ap (λ (ls : List (List ℕ)). head ∷ (ls ++ lines)) none

abbrev pub Text : Type 0
Text = Vec ℕ Global

abbrev pub texts : List Text → List (List ℕ)
texts xs = map (λ (v : Text). v.items) xs

-- all but the first
abbrev pub rest_of : List Text → List Text
rest_of xs = take (length xs - 1) (drop 1 xs)

pub uncons : (x : Text) (xs : List Text) → 1 ≤ length xs → x ≡ get_or xs 0 x → xs ≡ x ∷ rest_of xs
uncons x [] long is = absurd (omega (arith, long))
uncons x (y ∷ ys) long is = ap (λ (l : List Text). y ∷ l) (sym (take_all (length (y ∷ ys) - 1) ys (omega arith))) ∙ ap (λ (z : Text). z ∷ take (length (y ∷ ys) - 1) ys) (sym is)

-- one more line on both sides
pub same_more : (left rest : List Text) (x y : Text) → 1 ≤ length left → 1 ≤ length rest → x ≡ get_or left 0 x → y ≡ get_or rest 0 y → x.items ≡ y.items → texts (rest_of left) ≡ texts (rest_of rest) → texts left ≡ texts rest
same_more left rest x y long more first second one others =
    ap texts (uncons x left long first)
    ∙ ap (λ (l : List ℕ). l ∷ texts (rest_of left)) one ∙ ap (λ (ls : List (List ℕ)). y.items ∷ ls) others
    ∙ sym (ap texts (uncons y rest more second))

-- a line that stored nothing left the rows as they were
pub kept_same : (old new : Log) (line : List ℕ) (rows : List (List ℕ)) → rows ≡ rows_of old → Stores old line new → new.cleared ≡ old.cleared → length new.lines ≡ length old.lines → rows ≡ rows_of new
kept_same old new line rows is stores same count = is ∙ rows_same old new line stores same count

-- a line was stored and added to the rows
pub kept_more : (old new : Log) (line : List ℕ) (rows added : List (List ℕ)) → added ≡ rows ++ line ∷ [] → rows ≡ rows_of old → Stores old line new → new.cleared ≡ old.cleared → length new.lines ≢ length old.lines → added ≡ rows_of new
kept_more old new line rows added more is stores same other = more ∙ ap (λ (ls : List (List ℕ)). ls ++ line ∷ []) is ∙ rows_stored old new line stores same other
