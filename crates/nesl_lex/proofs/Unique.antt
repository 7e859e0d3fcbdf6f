-- Bytes are read in one way.
use Rattle.std.proofs.Common.{◌≡◌, ℕ, ◌+◌, List, [], ◌∷◌, ◌++◌, length, length-append, append_assoc, take, map, Option, Some, None, inl, inr, refl, ap, sym, subst, ◌∙◌, arith}
use Rattle.nesl_lex.specs.declared.token.Sign.{Sign}
use Rattle.nesl_lex.specs.declared.scan.Start.{Start}
use Rattle.nesl_lex.specs.declared.scan.Start.TheVariants as start
use Rattle.nesl_lex.specs.Tokens.{Lexeme, number, name, reserved, truth, character, quoted, symbol, Placed}
use Rattle.nesl_lex.specs.Lexemes.{is_blank, is_comment_byte, is_text_byte, small_letter, AllBytes, with_digits, sign_text, IsNameText, SpellsName, Spells, IsGap, Ending, token_from, Reads, finished, halted, passed, took}
use Rattle.nesl_lex.specs.Scan.{start_of, front_len, sign_in}
use Rattle.nesl_lex.proofs.Starts.{clash, digit_starts, letter_starts}
use Rattle.nesl_lex.proofs.Fronts.{insides_same, ended_at, same_front}
use Rattle.nesl_lex.specs.Reading.{named_in}
use Rattle.nesl_lex.proofs.Words.{named_one}
use Rattle.nesl_lex.proofs.Signs.{sign_read, sign_start}
use Rattle.nesl_lex.proofs.Shapes.{form_of, form_byte, gap_byte, no_gap_form, longest_same}
use Rattle.std.proofs.Math.Seq.{take-append_seam}

comments_same : (us inside xs vs outside ys : List ℕ) → us ≡ inside ++ 37 ∷ [] → vs ≡ outside ++ 37 ∷ [] → us ++ xs ≡ vs ++ ys → AllBytes is_comment_byte inside → AllBytes is_comment_byte outside → length us ≡ length vs
comments_same us inside xs vs outside ys i j h d e =
    let f : (inside ++ 37 ∷ []) ++ xs ≡ (outside ++ 37 ∷ []) ++ ys = ap (λ (ts : List ℕ). ts ++ xs) (sym i) ∙ h ∙ ap (λ (ts : List ℕ). ts ++ ys) j in
    let g : inside ++ 37 ∷ xs ≡ outside ++ 37 ∷ ys = simp append_assoc at f in
    let k = insides_same is_comment_byte 37 refl inside xs outside ys g d e in
    omega (arith, ap length i, ap length j, length-append inside (37 ∷ []), length-append outside (37 ∷ []))

gap_len_same : (us xs vs ys : List ℕ) → us ++ xs ≡ vs ++ ys → IsGap us → IsGap vs → length us ≡ length vs
gap_len_same [] xs vs ys h g k = absurd g
gap_len_same (u ∷ us) xs [] ys h g k = absurd k
gap_len_same (u ∷ us) xs (v ∷ vs) ys h g k =
    let e : u ≡ v = cc in
    let f : us ++ xs ≡ vs ++ ys = cc in
    elim g [
      | inl a ↦ elim k [
        | inl b ↦ omega (arith, ap length a.1, ap length b.1)
        | inr b ↦ absurd (clash (is_blank u) a.0 (ap is_blank (e ∙ b.0)))
      ]
      | inr a ↦ elim k [
        | inl b ↦ absurd (clash (is_blank v) b.0 (ap is_blank (sym e ∙ a.0)))
        | inr b ↦ omega (arith, comments_same us a.1 xs vs b.1 ys a.2 b.2 f a.3 b.3)
      ]
    ]

abbrev symbol_of : Option Sign → Option Lexeme
symbol_of (Some s) = Some (symbol s)
symbol_of None = None

-- the one lexeme that a text may spell, by its first byte
abbrev spelled_as : Start → List ℕ → Option Lexeme
spelled_as start.Number text = Some (number (with_digits 0 text))
spelled_as start.Name text = Some (named_in (map small_letter text))
spelled_as start.Character (b ∷ c ∷ cs) = Some (character c)
spelled_as start.Text (b ∷ bs) = Some (quoted (take (front_len is_text_byte bs) bs))
spelled_as start.Other text = symbol_of (sign_in text)
spelled_as _ text = None

abbrev spelled : List ℕ → Option Lexeme
spelled [] = None
spelled (b ∷ bs) = spelled_as (start_of b) (b ∷ bs)

name_spelled : (text : List ℕ) (x : Lexeme) → IsNameText text → SpellsName (map small_letter text) x → spelled text ≡ Some x
name_spelled [] x t i = absurd t
name_spelled (b ∷ bs) x t i = rw (letter_starts b t.0) (ap (λ (y : Lexeme). Some y) (named_one (map small_letter (b ∷ bs)) x i))

number_spelled : (text : List ℕ) (n : ℕ) → Spells text (number n) → spelled text ≡ Some (number n)
number_spelled [] n s = absurd s.0
number_spelled (b ∷ bs) n s = rw (digit_starts b s.0.0) (ap (λ (m : ℕ). Some (number m)) (sym s.1))

quoted_spelled : (inside : List ℕ) → AllBytes is_text_byte inside → spelled (34 ∷ (inside ++ 34 ∷ [])) ≡ Some (quoted inside)
quoted_spelled inside e =
    let q = ended_at is_text_byte 34 refl inside [] (inside ++ 34 ∷ []) refl e in
    ap (λ (m : ℕ). Some (quoted (take m (inside ++ 34 ∷ [])))) q.long ∙ ap (λ (us : List ℕ). Some (quoted us)) (take-append_seam inside (34 ∷ []))

sign_spelled : (text : List ℕ) (s : Sign) → text ≡ sign_text s → spelled text ≡ Some (symbol s)
sign_spelled [] s h = let k = sign_start s (37 ∷ []) 37 [] (ap (λ (us : List ℕ). us ++ 37 ∷ []) (sym h)) in cc
sign_spelled (b ∷ bs) s h =
    let o : start_of b ≡ start.Other = sign_start s [] b (bs ++ []) (ap (λ (us : List ℕ). us ++ []) (sym h)) in
    let r : sign_in (b ∷ bs) ≡ Some s = ap sign_in h ∙ sign_read s in
    rw (o, r) refl

spells_spelled : (text : List ℕ) (x : Lexeme) → Spells text x → spelled text ≡ Some x
spells_spelled text (number n) s = number_spelled text n s
spells_spelled text (name bytes) s = name_spelled text (name bytes) s.0 s.1
spells_spelled text (reserved w) s = name_spelled text (reserved w) s.0 s.1
spells_spelled text (truth value) s = name_spelled text (truth value) s.0 s.1
spells_spelled text (character c) s = ap spelled s.0
spells_spelled text (quoted inside) s = ap spelled s.0 ∙ quoted_spelled inside s.1
spells_spelled text (symbol g) s = sign_spelled text g s

-- a text is one token
spells_one : (text : List ℕ) (x y : Lexeme) → Spells text x → Spells text y → x ≡ y
spells_one text x y s t = let a = spells_spelled text x s in let b = spells_spelled text y t in cc

pub record SameReading (ts us : List Placed) (e f : Ending) : Type 0 where
  pub tokens : ts ≡ us
  pub endings : e ≡ f

no_front_text : (text rest : List ℕ) (x : Lexeme) → [] ≡ text ++ rest → Spells text x → ⊥
no_front_text text rest x h s = form_byte text rest h (form_of text (inr (x, s)))

no_gap_text : (gap text xs ys : List ℕ) (x : Lexeme) → gap ++ xs ≡ text ++ ys → IsGap gap → Spells text x → ⊥
no_gap_text gap text xs ys x h g s = no_gap_form gap text xs ys h g (form_of text (inr (x, s)))

reads_moved : (m n : ℕ) (xs ys : List ℕ) (us : List Placed) (f : Ending) → m ≡ n → xs ≡ ys → Reads n ys us f → Reads m xs us f
reads_moved m n xs ys us f h k r = subst (λ (x : ℕ). Reads x xs us f) (sym h) (subst (λ (zs : List ℕ). Reads n zs us f) (sym k) r)

took_same : (at : ℕ) (text text' : List ℕ) (x x' : Lexeme) (ts us : List Placed) (e f : Ending) → text ≡ text' → x ≡ x' → SameReading ts us e f
    → SameReading (token_from x at (length text) ∷ ts) (token_from x' at (length text') ∷ us) e f
took_same at text text' x x' ts us e f h k r = record { tokens = rw (h, k, r.tokens) refl; endings = r.endings }

-- there is one reading
pub one_reading : {at : ℕ} {bytes : List ℕ} {ts : List Placed} {e : Ending} → Reads at bytes ts e → {us : List Placed} {f : Ending} → Reads at bytes us f → SameReading ts us e f
one_reading finished finished = record { tokens = refl; endings = refl }
one_reading finished (halted s) = absurd (s.byte refl)
one_reading finished (passed gap rest h g r) = absurd (gap_byte gap rest h g)
one_reading finished (took text rest x h s l r) = absurd (no_front_text text rest x h s)
one_reading (halted s) finished = absurd (s.byte refl)
one_reading (halted s) (halted t) = record { tokens = refl; endings = refl }
one_reading (halted s) (passed gap rest h g r) = absurd (s.no_gap gap rest h g)
one_reading (halted s) (took text rest x h t l r) = absurd (s.no_token text rest x h t l)
one_reading (passed gap rest h g r) finished = absurd (gap_byte gap rest h g)
one_reading (passed gap rest h g r) (halted s) = absurd (s.no_gap gap rest h g)
one_reading {at = at} (passed gap rest h g r) {us = us} {f = f} (passed gap' rest' h' g' r') =
    let k = same_front gap gap' rest rest' (sym h ∙ h') (gap_len_same gap rest gap' rest' (sym h ∙ h') g g') in
    one_reading r (reads_moved (at + length gap) (at + length gap') rest rest' us f (ap (λ (x : List ℕ). at + length x) k.fronts) k.rests r')
one_reading (passed gap rest h g r) (took text rest' x h' s l r') = absurd (no_gap_text gap text rest rest' x (sym h ∙ h') g s)
one_reading (took text rest x h s l r) finished = absurd (no_front_text text rest x h s)
one_reading (took text rest x h s l r) (halted t) = absurd (t.no_token text rest x h s l)
one_reading (took text rest x h s l r) (passed gap rest' h' g r') = absurd (no_gap_text gap text rest' rest x (sym h' ∙ h) g s)
one_reading {at = at} {e = e} (took {ts = ts} text rest x h s l r) {f = f} (took {ts = us} text' rest' x' h' s' l' r') =
    let k = longest_same text rest text' rest' (sym h ∙ h') (inr (x, s)) (inr (x', s')) l l' in
    took_same at text text' x x' ts us e f k.fronts (spells_one text x x' s (subst (λ (y : List ℕ). Spells y x') (sym k.fronts) s'))
    (one_reading r (reads_moved (at + length text) (at + length text') rest rest' us f (ap (λ (y : List ℕ). at + length y) k.fronts) k.rests r'))
