-- What the code finds at the front is there.
use Rattle.std.proofs.Common.{◌≡◌, ℕ, suc, ◌+◌, ◌-◌, ◌^◌, ◌≤◌, ◌<◌, Bool, true, List, [], ◌∷◌, ◌++◌, length, length-append, append_assoc, take, drop, get_or, map, Some, None, inl, inr, refl, ap, sym, subst, ◌∙◌, arith}
use Rattle.std.proofs.Math.Seq.{take-append_seam}
use Rattle.std.proofs.lemmas.List.{take_all, length-drop}
use Rattle.nesl_lex.specs.declared.token.Sign.{Sign}
use Rattle.nesl_lex.specs.declared.scan.Start.{Start}
use Rattle.nesl_lex.specs.declared.scan.Start.TheVariants as start
use Rattle.nesl_lex.specs.Tokens.{Lexeme, number, name, reserved, truth, character, quoted, symbol}
use Rattle.nesl_lex.specs.Lexemes.{is_digit, is_name_byte, is_printable, is_comment_byte, is_text_byte, small_letter, AllBytes, with_digits, sign_text, IsNameText, SpellsName, Spells, HasNoToken}
use Rattle.nesl_lex.specs.Scan.{start_of, front_len, Stops, sign_in, GapAt, TextAt}
use Rattle.nesl_lex.proofs.Starts.{start_blank, start_comment, start_number, start_name, start_character, start_text, letter_is_name_byte, no_comment_byte}
use Rattle.nesl_lex.proofs.Fronts.{front_of, Closed, closed_at, stopped_at}
use Rattle.nesl_lex.proofs.Signs.{sign_front}
use Rattle.nesl_lex.proofs.Shapes.{digits_longest, name_longest, character_longest, quoted_longest, sign_longest, no_number, no_quoted, no_character, no_start, no_comment}

-- the code's &bytes[i..]
pub from_of : (i : ℕ) (bytes : List ℕ) → take (length bytes - i) (drop i bytes) ≡ drop i bytes
from_of i bytes = take_all (length bytes - i) (drop i bytes) (omega (arith, length-drop i bytes))

taken_of : (n : ℕ) (bytes us xs : List ℕ) → bytes ≡ us ++ xs → length us ≡ n → take n bytes ≡ us
taken_of n bytes us xs h k = ap (λ (m : ℕ). take m bytes) (sym k) ∙ ap (λ (ys : List ℕ). take (length us) ys) h ∙ take-append_seam us xs

pub blank_gap : (bytes : List ℕ) → 0 < length bytes → start_of (get_or bytes 0 0) ≡ start.Blank → GapAt bytes 1
blank_gap [] h k = absurd (omega arith)
blank_gap (c ∷ cs) h k = record { gap = c ∷ []; rest = cs; whole = refl; long = refl; is_gap = inl (start_blank c k, refl) }

-- the run that begins here, with its first byte
pub record Run (p : ℕ → Bool) (bytes : List ℕ) : Type 0 where
  pub first : ℕ
  pub front : List ℕ
  pub rest : List ℕ
  pub whole : bytes ≡ (first ∷ front) ++ rest
  pub at : first ≡ get_or bytes 0 0
  pub long : length (first ∷ front) ≡ front_len p bytes
  pub each : AllBytes p (first ∷ front)
  pub stops : Stops p rest
  pub taken : take (front_len p bytes) bytes ≡ first ∷ front

run_of : (p : ℕ → Bool) (bytes : List ℕ) → 0 < length bytes → p (get_or bytes 0 0) ≡ true → Run p bytes
run_of p [] h k = absurd (omega arith)
run_of p (b ∷ bs) h k =
    let f = front_of p bs in
    let long : length (b ∷ f.front) ≡ front_len p (b ∷ bs) = rw k (ap suc f.long) in
    record {
      first = b;
      front = f.front;
      rest = f.rest;
      whole = ap (λ (xs : List ℕ). b ∷ xs) f.whole;
      at = refl;
      long = long;
      each = (k, f.each);
      stops = f.stops;
      taken = taken_of (front_len p (b ∷ bs)) (b ∷ bs) (b ∷ f.front) f.rest (ap (λ (xs : List ℕ). b ∷ xs) f.whole) long;
    }

-- a number
digit_run : (bytes : List ℕ) → 0 < length bytes → start_of (get_or bytes 0 0) ≡ start.Number → Run is_digit bytes
digit_run bytes h k = run_of is_digit bytes h (start_number (get_or bytes 0 0) k)

run_start : (bytes : List ℕ) (p : ℕ → Bool) (s : Start) → start_of (get_or bytes 0 0) ≡ s → (r : Run p bytes) → start_of r.first ≡ s
run_start bytes p s k r = ap start_of r.at ∙ k

pub run_each : (bytes : List ℕ) → 0 < length bytes → start_of (get_or bytes 0 0) ≡ start.Number → AllBytes is_digit (take (front_len is_digit bytes) bytes)
run_each bytes h k = let r = digit_run bytes h k in subst (λ (us : List ℕ). AllBytes is_digit us) (sym r.taken) r.each

pub number_text : (bytes : List ℕ) → 0 < length bytes → start_of (get_or bytes 0 0) ≡ start.Number → (v : ℕ) → v ≡ with_digits 0 (take (front_len is_digit bytes) bytes) → v < 2 ^ 63 → TextAt bytes (front_len is_digit bytes) (number v)
number_text bytes h k v e small =
    let r = digit_run bytes h k in
    record {
      text = r.first ∷ r.front;
      rest = r.rest;
      whole = r.whole;
      long = r.long;
      spells = (r.each, e ∙ ap (with_digits 0) r.taken, small);
      longest = digits_longest r.first r.front r.rest (run_start bytes is_digit start.Number k r) r.stops;
    }

pub number_stuck : (bytes : List ℕ) → 0 < length bytes → start_of (get_or bytes 0 0) ≡ start.Number → 2 ^ 63 ≤ with_digits 0 (take (front_len is_digit bytes) bytes) → HasNoToken bytes
number_stuck bytes h k large =
    let r = digit_run bytes h k in
    subst HasNoToken (sym r.whole) (no_number r.first r.front r.rest (run_start bytes is_digit start.Number k r) r.each r.stops (omega (arith, ap (with_digits 0) r.taken)))

-- a name, a reserved word or a truth value
name_run : (bytes : List ℕ) → 0 < length bytes → start_of (get_or bytes 0 0) ≡ start.Name → Run is_name_byte bytes
name_run bytes h k = run_of is_name_byte bytes h (letter_is_name_byte (get_or bytes 0 0) (start_name (get_or bytes 0 0) k))

spells_named : (text : List ℕ) (x : Lexeme) → IsNameText text → SpellsName (map small_letter text) x → Spells text x
spells_named text (number n) t i = absurd i
spells_named text (name bytes) t i = (t, i)
spells_named text (reserved w) t i = (t, i)
spells_named text (truth value) t i = (t, i)
spells_named text (character c) t i = absurd i
spells_named text (quoted bytes) t i = absurd i
spells_named text (symbol s) t i = absurd i

pub name_text : (bytes : List ℕ) → 0 < length bytes → start_of (get_or bytes 0 0) ≡ start.Name → (x : Lexeme) → SpellsName (map small_letter (take (front_len is_name_byte bytes) bytes)) x → TextAt bytes (front_len is_name_byte bytes) x
name_text bytes h k x i =
    let r = name_run bytes h k in
    let s = run_start bytes is_name_byte start.Name k r in
    record {
      text = r.first ∷ r.front;
      rest = r.rest;
      whole = r.whole;
      long = r.long;
      spells = spells_named (r.first ∷ r.front) x (start_name r.first s, r.each.1) (subst (λ (us : List ℕ). SpellsName (map small_letter us) x) r.taken i);
      longest = name_longest r.first r.front r.rest s r.stops;
    }

-- a sign
sign_of : (b : ℕ) (bs : List ℕ) (s : Sign) → sign_in (b ∷ bs) ≡ Some s → TextAt (b ∷ bs) (length (sign_text s)) (symbol s)
sign_of b bs s e =
    let f = sign_front (b ∷ bs) s e in
    record { text = sign_text s; rest = f.rest; whole = f.whole; long = refl; spells = refl; longest = sign_longest b bs s f.rest (sym f.whole) f.longest }

pub symbol_text : (bytes : List ℕ) → 0 < length bytes → (s : Sign) → sign_in bytes ≡ Some s → TextAt bytes (length (sign_text s)) (symbol s)
symbol_text [] h s e = absurd (omega arith)
symbol_text (b ∷ bs) h s e = sign_of b bs s e

pub symbol_stuck : (bytes : List ℕ) → 0 < length bytes → start_of (get_or bytes 0 0) ≡ start.Other → sign_in bytes ≡ None → HasNoToken bytes
symbol_stuck [] h k e = absurd (omega arith)
symbol_stuck (b ∷ bs) h k e = no_start b bs k e

-- a character
pub character_text : (bytes : List ℕ) → 1 < length bytes → start_of (get_or bytes 0 0) ≡ start.Character → is_printable (get_or bytes 1 0) ≡ true → TextAt bytes 2 (character (get_or bytes 1 0))
character_text [] h k p = absurd (omega arith)
character_text (b ∷ []) h k p = absurd (omega arith)
character_text (b ∷ c ∷ cs) h k p = subst (λ (x : ℕ). TextAt (x ∷ c ∷ cs) 2 (character c)) (sym (start_character b k)) (record { text = 96 ∷ c ∷ []; rest = cs; whole = refl; long = refl; spells = (refl, p); longest = character_longest c cs })

pub character_stuck : (bytes : List ℕ) → 0 < length bytes → start_of (get_or bytes 0 0) ≡ start.Character → (1 < length bytes → is_printable (get_or bytes 1 0) ≡ true → ⊥) → HasNoToken bytes
character_stuck [] h k n = absurd (omega arith)
character_stuck (b ∷ bs) h k n = subst (λ (x : ℕ). HasNoToken (x ∷ bs)) (sym (start_character b k)) (no_character bs (λ l p. n (omega arith) p))

-- a text: 34, then bytes other than 34, then 34
quoted_of : (bs : List ℕ) → Closed is_text_byte 34 bs → TextAt (34 ∷ bs) (front_len is_text_byte bs + 2) (quoted (take (front_len is_text_byte bs) bs))
quoted_of bs c = record {
  text = 34 ∷ (c.inside ++ 34 ∷ []);
  rest = c.rest;
  whole = ap (λ (xs : List ℕ). 34 ∷ xs) (c.whole ∙ sym (append_assoc c.inside (34 ∷ []) c.rest));
  long = omega (arith, length-append c.inside (34 ∷ []), c.long);
  spells = let t = taken_of (front_len is_text_byte bs) bs c.inside (34 ∷ c.rest) c.whole c.long in (ap (λ (xs : List ℕ). 34 ∷ (xs ++ 34 ∷ [])) (sym t), subst (λ (xs : List ℕ). AllBytes is_text_byte xs) (sym t) c.each);
  longest = quoted_longest c.inside c.rest c.each;
}

pub quoted_text : (bytes : List ℕ) → 0 < length bytes → start_of (get_or bytes 0 0) ≡ start.Text → front_len is_text_byte (drop 1 bytes) < length (drop 1 bytes) → get_or (drop 1 bytes) (front_len is_text_byte (drop 1 bytes)) 0 ≡ 34
    → TextAt bytes (front_len is_text_byte (drop 1 bytes) + 2) (quoted (take (front_len is_text_byte (drop 1 bytes)) (drop 1 bytes)))
quoted_text [] h k l e = absurd (omega arith)
quoted_text (b ∷ bs) h k l e = subst (λ (x : ℕ). TextAt (x ∷ bs) (front_len is_text_byte bs + 2) (quoted (take (front_len is_text_byte bs) bs))) (sym (start_text b k)) (quoted_of bs (closed_at is_text_byte 34 bs l e))

pub quoted_stuck : (bytes : List ℕ) → 0 < length bytes → start_of (get_or bytes 0 0) ≡ start.Text → (front_len is_text_byte (drop 1 bytes) < length (drop 1 bytes) → get_or (drop 1 bytes) (front_len is_text_byte (drop 1 bytes)) 0 ≡ 34 → ⊥) → HasNoToken bytes
quoted_stuck [] h k n = absurd (omega arith)
quoted_stuck (b ∷ bs) h k n = subst (λ (x : ℕ). HasNoToken (x ∷ bs)) (sym (start_text b k)) (no_quoted bs n)

-- a comment: 37, then bytes other than 37, then 37
comment_of : (bs : List ℕ) → Closed is_comment_byte 37 bs → GapAt (37 ∷ bs) (front_len is_comment_byte bs + 2)
comment_of bs c = record {
  gap = 37 ∷ (c.inside ++ 37 ∷ []);
  rest = c.rest;
  whole = ap (λ (xs : List ℕ). 37 ∷ xs) (c.whole ∙ sym (append_assoc c.inside (37 ∷ []) c.rest));
  long = omega (arith, length-append c.inside (37 ∷ []), c.long);
  is_gap = inr (refl, c.inside, refl, c.each);
}

pub comment_gap : (bytes : List ℕ) → 0 < length bytes → start_of (get_or bytes 0 0) ≡ start.Comment → front_len is_comment_byte (drop 1 bytes) < length (drop 1 bytes) → GapAt bytes (front_len is_comment_byte (drop 1 bytes) + 2)
comment_gap [] h k l = absurd (omega arith)
comment_gap (c ∷ cs) h k l = subst (λ (x : ℕ). GapAt (x ∷ cs) (front_len is_comment_byte cs + 2)) (sym (start_comment c k)) (comment_of cs (closed_at is_comment_byte 37 cs l (no_comment_byte _ (stopped_at is_comment_byte cs l))))

pub comment_stuck : (bytes : List ℕ) → 0 < length bytes → start_of (get_or bytes 0 0) ≡ start.Comment → length (drop 1 bytes) ≤ front_len is_comment_byte (drop 1 bytes) → HasNoToken bytes
comment_stuck [] h k l = absurd (omega arith)
comment_stuck (c ∷ cs) h k l = subst (λ (x : ℕ). HasNoToken (x ∷ cs)) (sym (start_comment c k)) (no_comment cs (λ m. omega arith))
