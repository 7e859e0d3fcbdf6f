-- Which texts are at the front of some bytes, and which are the longest.
use Rattle.std.proofs.Common.{◌≡◌, ◌≢◌, ℕ, suc, ◌^◌, ◌≤◌, ◌<◌, true, List, [], ◌∷◌, ◌++◌, length, length-append, append_assoc, get_or, None, inl, inr, refl, ap, sym, subst, ◌∙◌, arith}
use Rattle.nesl_lex.specs.declared.token.Sign.{Sign}
use Rattle.nesl_lex.specs.declared.scan.Start.{Start}
use Rattle.nesl_lex.specs.declared.scan.Start.TheVariants as start
use Rattle.nesl_lex.specs.Tokens.{Lexeme, number, name, reserved, truth, character, quoted, symbol}
use Rattle.nesl_lex.specs.Lexemes.{is_blank, is_digit, is_name_byte, is_printable, is_comment_byte, is_text_byte, AllBytes, with_digits, sign_text, IsDigits, IsNameText, IsTokenText, Spells, IsLongest, IsGap, HasNoToken}
use Rattle.nesl_lex.specs.Scan.{start_of, front_len, Stops, sign_in}
use Rattle.nesl_lex.proofs.Starts.{blank_starts, digit_starts, letter_starts}
use Rattle.nesl_lex.proofs.Fronts.{each_le, Ended, ended_at, insides_same, SameFront, same_front}
use Rattle.nesl_lex.proofs.Signs.{sign_start, sign_none}

-- the forms that a token's text has
pub data Form (text : List ℕ) : Type 0 where
  of_digits : IsDigits text → Form text
  of_letters : IsNameText text → Form text
  of_character : (c : ℕ) → text ≡ 96 ∷ c ∷ [] → Form text
  of_quoted : (inside : List ℕ) → text ≡ 34 ∷ (inside ++ 34 ∷ []) → AllBytes is_text_byte inside → Form text
  of_sign : (s : Sign) → text ≡ sign_text s → Form text

spelled_form : (text : List ℕ) (x : Lexeme) → Spells text x → Form text
spelled_form text (number n) s = of_digits s.0
spelled_form text (name bytes) s = of_letters s.0
spelled_form text (reserved w) s = of_letters s.0
spelled_form text (truth value) s = of_letters s.0
spelled_form text (character c) s = of_character c s.0
spelled_form text (quoted inside) s = of_quoted inside s.0 s.1
spelled_form text (symbol g) s = of_sign g s

pub form_of : (text : List ℕ) → IsTokenText text → Form text
form_of text h = elim h [ inl d ↦ of_digits d | inr s ↦ spelled_form text s.0 s.1 ]

-- what the first byte of a form begins
abbrev pub begins : {text : List ℕ} → Form text → Start
begins (of_digits d) = start.Number
begins (of_letters d) = start.Name
begins (of_character c h) = start.Character
begins (of_quoted inside h e) = start.Text
begins (of_sign s h) = start.Other

digits_begin : (text back : List ℕ) (b : ℕ) (bs : List ℕ) → text ++ back ≡ b ∷ bs → IsDigits text → start_of b ≡ start.Number
digits_begin [] back b bs h d = absurd d
digits_begin (c ∷ cs) back b bs h d = let e : c ≡ b = cc in subst (λ (x : ℕ). start_of x ≡ start.Number) e (digit_starts c d.0)

letters_begin : (text back : List ℕ) (b : ℕ) (bs : List ℕ) → text ++ back ≡ b ∷ bs → IsNameText text → start_of b ≡ start.Name
letters_begin [] back b bs h d = absurd d
letters_begin (c ∷ cs) back b bs h d = let e : c ≡ b = cc in subst (λ (x : ℕ). start_of x ≡ start.Name) e (letter_starts c d.0)

first_is : (a b : ℕ) (text us back bs : List ℕ) → text ++ back ≡ b ∷ bs → text ≡ a ∷ us → a ≡ b
first_is a b text us back bs h k = let e : a ∷ (us ++ back) ≡ b ∷ bs = ap (λ (xs : List ℕ). xs ++ back) (sym k) ∙ h in cc

pub begins_at : (text back : List ℕ) (b : ℕ) (bs : List ℕ) → text ++ back ≡ b ∷ bs → (f : Form text) → start_of b ≡ begins f
begins_at text back b bs h (of_digits d) = digits_begin text back b bs h d
begins_at text back b bs h (of_letters d) = letters_begin text back b bs h d
begins_at text back b bs h (of_character c k) = subst (λ (x : ℕ). start_of x ≡ start.Character) (first_is 96 b text (c ∷ []) back bs h k) refl
begins_at text back b bs h (of_quoted inside k e) = subst (λ (x : ℕ). start_of x ≡ start.Text) (first_is 34 b text (inside ++ 34 ∷ []) back bs h k) refl
begins_at text back b bs h (of_sign s k) = sign_start s back b bs (ap (λ (us : List ℕ). us ++ back) (sym k) ∙ h)

-- a form has a first byte
pub form_byte : (text rest : List ℕ) → [] ≡ text ++ rest → Form text → ⊥
form_byte [] rest h f = no_form f
  where
    no_sign : (s : Sign) → [] ≡ sign_text s → ⊥
    no_sign s h = let k = sign_start s (37 ∷ []) 37 [] (ap (λ (us : List ℕ). us ++ 37 ∷ []) (sym h)) in cc

    no_form : Form [] → ⊥
    no_form (of_digits d) = d
    no_form (of_letters d) = d
    no_form (of_character c h) = cc
    no_form (of_quoted inside h e) = cc
    no_form (of_sign s h) = no_sign s h
form_byte (c ∷ cs) rest h f = cc

pub gap_byte : (gap rest : List ℕ) → [] ≡ gap ++ rest → IsGap gap → ⊥
gap_byte [] rest h g = g
gap_byte (c ∷ cs) rest h g = cc

-- a gap's first byte begins a gap
pub gap_begins : (gap back : List ℕ) (b : ℕ) (bs : List ℕ) (k : Start) → gap ++ back ≡ b ∷ bs → start_of b ≡ k → k ≢ start.Blank → k ≢ start.Comment → IsGap gap → ⊥
gap_begins [] back b bs k h e n m g = g
gap_begins (c ∷ cs) back b bs k h e n m g =
    let f : c ≡ b = cc in
    elim g [
      | inl x ↦ n (sym e ∙ blank_starts b (subst (λ (y : ℕ). is_blank y ≡ true) f x.0))
      | inr x ↦ m (sym e ∙ subst (λ (y : ℕ). start_of y ≡ start.Comment) (sym x.0 ∙ f) refl)
    ]

-- a gap and a token don't begin alike
pub no_gap_form : (gap text xs ys : List ℕ) → gap ++ xs ≡ text ++ ys → IsGap gap → Form text → ⊥
no_gap_form [] text xs ys h g f = g
no_gap_form (b ∷ bs) text xs ys h g f = gap_begins (b ∷ bs) xs b (bs ++ xs) (begins f) refl (begins_at text ys b (bs ++ xs) (sym h) f) (no_blank f) (no_comment f) g
  where
    no_blank : {us : List ℕ} (f : Form us) → begins f ≢ start.Blank
    no_blank (of_digits d) e = cc
    no_blank (of_letters d) e = cc
    no_blank (of_character c h) e = cc
    no_blank (of_quoted inside h d) e = cc
    no_blank (of_sign s h) e = cc

    no_comment : {us : List ℕ} (f : Form us) → begins f ≢ start.Comment
    no_comment (of_digits d) e = cc
    no_comment (of_letters d) e = cc
    no_comment (of_character c h) e = cc
    no_comment (of_quoted inside h d) e = cc
    no_comment (of_sign s h) e = cc

-- the longest texts
abbrev AtMost : List ℕ → ℕ → Type 0
AtMost f n = length f ≤ n

digits_each : (f : List ℕ) → IsDigits f → AllBytes is_digit f
digits_each [] d = absurd d
digits_each (c ∷ cs) d = d

digits_le : (b : ℕ) (front rest f back : List ℕ) → start_of b ≡ start.Number → Stops is_digit rest → f ++ back ≡ (b ∷ front) ++ rest → (x : Form f) → start_of b ≡ begins x → length f ≤ length (b ∷ front)
digits_le b front rest f back d s h (of_digits i) e = each_le is_digit f back (b ∷ front) rest (digits_each f i) s h
digits_le b front rest f back d s h (of_letters i) e = cc
digits_le b front rest f back d s h (of_character c k) e = cc
digits_le b front rest f back d s h (of_quoted inside k i) e = cc
digits_le b front rest f back d s h (of_sign g k) e = cc

pub digits_longest : (b : ℕ) (front rest : List ℕ) → start_of b ≡ start.Number → Stops is_digit rest → IsLongest (b ∷ front) rest
digits_longest b front rest d s = λ f back h x.
    let y = form_of f x in
    digits_le b front rest f back d s (sym h) y (begins_at f back b (front ++ rest) (sym h) y)

letters_le : (b : ℕ) (front rest f back : List ℕ) → f ++ back ≡ (b ∷ front) ++ rest → IsNameText f → Stops is_name_byte rest → length f ≤ length (b ∷ front)
letters_le b front rest [] back h n s = absurd n
letters_le b front rest (c ∷ cs) back h n s = let e : cs ++ back ≡ front ++ rest = cc in omega (arith, each_le is_name_byte cs back front rest n.1 s e)

name_le : (b : ℕ) (front rest f back : List ℕ) → start_of b ≡ start.Name → Stops is_name_byte rest → f ++ back ≡ (b ∷ front) ++ rest → (x : Form f) → start_of b ≡ begins x → length f ≤ length (b ∷ front)
name_le b front rest f back d s h (of_digits i) e = cc
name_le b front rest f back d s h (of_letters i) e = letters_le b front rest f back h i s
name_le b front rest f back d s h (of_character c k) e = cc
name_le b front rest f back d s h (of_quoted inside k i) e = cc
name_le b front rest f back d s h (of_sign g k) e = cc

pub name_longest : (b : ℕ) (front rest : List ℕ) → start_of b ≡ start.Name → Stops is_name_byte rest → IsLongest (b ∷ front) rest
name_longest b front rest d s = λ f back h x.
    let y = form_of f x in
    name_le b front rest f back d s (sym h) y (begins_at f back b (front ++ rest) (sym h) y)

character_le : (c : ℕ) (rest f back : List ℕ) → f ++ back ≡ 96 ∷ c ∷ rest → (x : Form f) → start_of 96 ≡ begins x → length f ≤ 2
character_le c rest f back h (of_digits i) e = cc
character_le c rest f back h (of_letters i) e = cc
character_le c rest f back h (of_character d k) e = omega (arith, ap length k)
character_le c rest f back h (of_quoted inside k i) e = cc
character_le c rest f back h (of_sign g k) e = cc

pub character_longest : (c : ℕ) (rest : List ℕ) → IsLongest (96 ∷ c ∷ []) rest
character_longest c rest = λ f back h x.
    let y = form_of f x in
    character_le c rest f back (sym h) y (begins_at f back 96 (c ∷ rest) (sym h) y)

-- after the first quote
inside_of : (text back bs inside : List ℕ) → text ++ back ≡ 34 ∷ bs → text ≡ 34 ∷ (inside ++ 34 ∷ []) → inside ++ 34 ∷ back ≡ bs
inside_of text back bs inside h k =
    let e : 34 ∷ ((inside ++ 34 ∷ []) ++ back) ≡ 34 ∷ bs = ap (λ (us : List ℕ). us ++ back) (sym k) ∙ h in
    let f : (inside ++ 34 ∷ []) ++ back ≡ bs = cc in
    sym (append_assoc inside (34 ∷ []) back) ∙ f

quoted_le : (inside rest f back : List ℕ) → AllBytes is_text_byte inside → f ++ back ≡ 34 ∷ (inside ++ 34 ∷ rest) → (x : Form f) → start_of 34 ≡ begins x → length f ≤ suc (length (inside ++ 34 ∷ []))
quoted_le inside rest f back d h (of_digits i) e = cc
quoted_le inside rest f back d h (of_letters i) e = cc
quoted_le inside rest f back d h (of_character c k) e = cc
quoted_le inside rest f back d h (of_quoted other k i) e =
    let g = insides_same is_text_byte 34 refl other back inside rest (inside_of f back (inside ++ 34 ∷ rest) other h k) i d in
    omega (arith, ap length k, length-append other (34 ∷ []), length-append inside (34 ∷ []))
quoted_le inside rest f back d h (of_sign g k) e = cc

pub quoted_longest : (inside rest : List ℕ) → AllBytes is_text_byte inside → IsLongest (34 ∷ (inside ++ 34 ∷ [])) rest
quoted_longest inside rest d = λ f back h x.
    let y = form_of f x in
    let k : f ++ back ≡ 34 ∷ (inside ++ 34 ∷ rest) = sym h ∙ ap (λ (us : List ℕ). 34 ∷ us) (append_assoc inside (34 ∷ []) rest) in
    quoted_le inside rest f back d k y (begins_at f back 34 (inside ++ 34 ∷ rest) k y)

sign_le : (bytes : List ℕ) (s : Sign) (b : ℕ) (f back : List ℕ) → ((g : Sign) (back : List ℕ) → sign_text g ++ back ≡ bytes → length (sign_text g) ≤ length (sign_text s)) → start_of b ≡ start.Other → f ++ back ≡ bytes → (x : Form f) → start_of b ≡ begins x → length f ≤ length (sign_text s)
sign_le bytes s b f back le o h (of_digits i) e = cc
sign_le bytes s b f back le o h (of_letters i) e = cc
sign_le bytes s b f back le o h (of_character c k) e = cc
sign_le bytes s b f back le o h (of_quoted inside k i) e = cc
sign_le bytes s b f back le o h (of_sign g k) e = let d = le g back (ap (λ (us : List ℕ). us ++ back) (sym k) ∙ h) in omega (arith, ap length k)

pub sign_longest : (b : ℕ) (bs : List ℕ) (s : Sign) (rest : List ℕ) → sign_text s ++ rest ≡ b ∷ bs → ((g : Sign) (back : List ℕ) → sign_text g ++ back ≡ b ∷ bs → length (sign_text g) ≤ length (sign_text s)) → IsLongest (sign_text s) rest
sign_longest b bs s rest w le = λ f back h x.
    let y = form_of f x in
    let k : f ++ back ≡ b ∷ bs = sym h ∙ w in
    sign_le (b ∷ bs) s b f back le (sign_start s rest b bs w) k y (begins_at f back b bs k y)

-- two longest texts at one place are one
pub longest_same : (us xs vs ys : List ℕ) → us ++ xs ≡ vs ++ ys → IsTokenText us → IsTokenText vs → IsLongest us xs → IsLongest vs ys → SameFront us vs xs ys
longest_same us xs vs ys h s t l m = let a = l vs ys h t in let b = m us xs (sym h) s in same_front us vs xs ys h (omega arith)

-- a byte that begins no gap, and no token that is spelled there
pub stuck_at : (b : ℕ) (bs : List ℕ) (k : Start) → start_of b ≡ k → k ≢ start.Blank → k ≢ start.Comment → ((text back : List ℕ) (x : Lexeme) → b ∷ bs ≡ text ++ back → Spells text x → IsLongest text back → ⊥) → HasNoToken (b ∷ bs)
stuck_at b bs k e n m t = record {
  byte = λ x. cc;
  no_gap = λ gap rest h g. gap_begins gap rest b bs k (sym h) e n m g;
  no_token = t;
}

-- digits spell a number alone
digits_spell : (b : ℕ) (front : List ℕ) (x : Lexeme) → start_of b ≡ start.Number → Spells (b ∷ front) x → with_digits 0 (b ∷ front) < 2 ^ 63
digits_spell b front (number n) d s = omega (arith, s.1, s.2)
digits_spell b front (name bs) d s = let e : start_of b ≡ start.Name = letter_starts b s.0.0 in cc
digits_spell b front (reserved w) d s = let e : start_of b ≡ start.Name = letter_starts b s.0.0 in cc
digits_spell b front (truth value) d s = let e : start_of b ≡ start.Name = letter_starts b s.0.0 in cc
digits_spell b front (character c) d s = let e : start_of b ≡ start.Character = begins_at (b ∷ front) [] b (front ++ []) refl (of_character c s.0) in cc
digits_spell b front (quoted inside) d s = let e : start_of b ≡ start.Text = begins_at (b ∷ front) [] b (front ++ []) refl (of_quoted inside s.0 s.1) in cc
digits_spell b front (symbol g) d s = let e : start_of b ≡ start.Other = begins_at (b ∷ front) [] b (front ++ []) refl (of_sign g s) in cc

-- a number that is too large
pub no_number : (b : ℕ) (front rest : List ℕ) → start_of b ≡ start.Number → AllBytes is_digit (b ∷ front) → Stops is_digit rest → 2 ^ 63 ≤ with_digits 0 (b ∷ front) → HasNoToken ((b ∷ front) ++ rest)
no_number b front rest d e s v = stuck_at b (front ++ rest) start.Number d (λ k. cc) (λ k. cc) (λ text back x h t u.
    let k = longest_same text back (b ∷ front) rest (sym h) (inr (x, t)) (inl e) u (digits_longest b front rest d s) in
    let y = digits_spell b front x d (subst (λ (us : List ℕ). Spells us x) k.fronts t) in omega arith)

-- what a text that begins with a quote is closed by
quote_ends : (bs text back : List ℕ) → text ++ back ≡ 34 ∷ bs → (x : Form text) → start_of 34 ≡ begins x → (n : ℕ) × Ended is_text_byte 34 n bs
quote_ends bs text back h (of_digits i) e = cc
quote_ends bs text back h (of_letters i) e = cc
quote_ends bs text back h (of_character c k) e = cc
quote_ends bs text back h (of_quoted inside k i) e = (length inside, ended_at is_text_byte 34 refl inside back bs (inside_of text back bs inside h k) i)
quote_ends bs text back h (of_sign g k) e = cc

-- a text that isn't closed
pub no_quoted : (bs : List ℕ) → (front_len is_text_byte bs < length bs → get_or bs (front_len is_text_byte bs) 0 ≡ 34 → ⊥) → HasNoToken (34 ∷ bs)
no_quoted bs n = stuck_at 34 bs start.Text refl (λ k. cc) (λ k. cc) (λ text back x h t u.
    let y = form_of text (inr (x, t)) in
    let q = quote_ends bs text back (sym h) y (begins_at text back 34 bs (sym h) y) in
    n (omega (arith, q.1.long, q.1.within)) (ap (λ (m : ℕ). get_or bs m 0) q.1.long ∙ q.1.closes))

-- what a backquote is followed by
character_ends : (bs text back : List ℕ) (x : Lexeme) → text ++ back ≡ 96 ∷ bs → Spells text x → start_of 96 ≡ start.Character → (1 ≤ length bs) × (is_printable (get_or bs 0 0) ≡ true)
character_ends bs text back (number n) h s e = let f : start_of 96 ≡ start.Number = begins_at text back 96 bs h (of_digits s.0) in cc
character_ends bs text back (name y) h s e = let f : start_of 96 ≡ start.Name = begins_at text back 96 bs h (of_letters s.0) in cc
character_ends bs text back (reserved w) h s e = let f : start_of 96 ≡ start.Name = begins_at text back 96 bs h (of_letters s.0) in cc
character_ends bs text back (truth value) h s e = let f : start_of 96 ≡ start.Name = begins_at text back 96 bs h (of_letters s.0) in cc
character_ends bs text back (character c) h s e =
    let f : 96 ∷ c ∷ back ≡ 96 ∷ bs = ap (λ (us : List ℕ). us ++ back) (sym s.0) ∙ h in
    let g : c ∷ back ≡ bs = cc in
    subst (λ (us : List ℕ). (1 ≤ length us) × (is_printable (get_or us 0 0) ≡ true)) g (omega arith, s.1)
character_ends bs text back (quoted inside) h s e = let f : start_of 96 ≡ start.Text = begins_at text back 96 bs h (of_quoted inside s.0 s.1) in cc
character_ends bs text back (symbol g) h s e = let f : start_of 96 ≡ start.Other = begins_at text back 96 bs h (of_sign g s) in cc

-- a backquote with no byte 32 to 126 after it
pub no_character : (bs : List ℕ) → (1 ≤ length bs → is_printable (get_or bs 0 0) ≡ true → ⊥) → HasNoToken (96 ∷ bs)
no_character bs n = stuck_at 96 bs start.Character refl (λ k. cc) (λ k. cc) (λ text back x h t u.
    let q = character_ends bs text back x (sym h) t refl in n q.0 q.1)

-- a byte that begins nothing
sign_ends : (b : ℕ) (bs text back : List ℕ) → start_of b ≡ start.Other → sign_in (b ∷ bs) ≡ None → text ++ back ≡ b ∷ bs → (x : Form text) → start_of b ≡ begins x → ⊥
sign_ends b bs text back o n h (of_digits i) e = cc
sign_ends b bs text back o n h (of_letters i) e = cc
sign_ends b bs text back o n h (of_character c k) e = cc
sign_ends b bs text back o n h (of_quoted inside k i) e = cc
sign_ends b bs text back o n h (of_sign g k) e = sign_none b bs n g back (ap (λ (us : List ℕ). us ++ back) (sym k) ∙ h)

pub no_start : (b : ℕ) (bs : List ℕ) → start_of b ≡ start.Other → sign_in (b ∷ bs) ≡ None → HasNoToken (b ∷ bs)
no_start b bs o n = stuck_at b bs start.Other o (λ k. cc) (λ k. cc) (λ text back x h t u.
    let y = form_of text (inr (x, t)) in
    sign_ends b bs text back o n (sym h) y (begins_at text back b bs (sym h) y))

-- a comment that isn't closed
comment_in : (b : ℕ) (us back bs : List ℕ) → (b ∷ us) ++ back ≡ 37 ∷ bs → IsGap (b ∷ us) → (n : ℕ) × Ended is_comment_byte 37 n bs
comment_in b us back bs h g =
    let k : b ≡ 37 = cc in
    let f : us ++ back ≡ bs = cc in
    elim g [
      | inl x ↦ let y : is_blank 37 ≡ true = subst (λ (c : ℕ). is_blank c ≡ true) k x.0 in cc
      | inr x ↦ (length x.1, ended_at is_comment_byte 37 refl x.1 back bs (sym (append_assoc x.1 (37 ∷ []) back) ∙ ap (λ (xs : List ℕ). xs ++ back) (sym x.2) ∙ f) x.3)
    ]

gap_ends : (gap back bs : List ℕ) → gap ++ back ≡ 37 ∷ bs → IsGap gap → (n : ℕ) × Ended is_comment_byte 37 n bs
gap_ends [] back bs h g = absurd g
gap_ends (c ∷ cs) back bs h g = comment_in c cs back bs h g

comment_form : (bs text back : List ℕ) → text ++ back ≡ 37 ∷ bs → (x : Form text) → start_of 37 ≡ begins x → ⊥
comment_form bs text back h (of_digits i) e = cc
comment_form bs text back h (of_letters i) e = cc
comment_form bs text back h (of_character c k) e = cc
comment_form bs text back h (of_quoted inside k i) e = cc
comment_form bs text back h (of_sign g k) e = cc

pub no_comment : (bs : List ℕ) → (front_len is_comment_byte bs < length bs → ⊥) → HasNoToken (37 ∷ bs)
no_comment bs n = record {
  byte = λ x. cc;
  no_gap = λ gap back h g. let q = gap_ends gap back bs (sym h) g in n (omega (arith, q.1.long, q.1.within));
  no_token = λ text back x h t u. let y = form_of text (inr (x, t)) in comment_form bs text back (sym h) y (begins_at text back 37 bs (sym h) y);
}
