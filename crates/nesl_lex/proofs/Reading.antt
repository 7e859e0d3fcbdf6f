-- What a line is read as, computed.
use Rattle.std.proofs.Common.{◌≡◌, ℕ, zero, suc, ◌+◌, ◌^◌, ◌≤◌, ◌<◌, Bool, true, false, eqb, ltb, cond, ◌&&◌, List, [], ◌∷◌, ◌++◌, length, take, drop, get_or, map, Option, Some, None, ◌⊎◌, inl, inr, length-drop, refl, ap, sym, subst, ◌∙◌, arith}
use Rattle.std.proofs.lemmas.Bool.Decides.{nat_tests}
use Rattle.std.proofs.Math.Seq.{drop-append_seam}
use Rattle.nesl_lex.specs.declared.token.Sign.{Sign}
use Rattle.nesl_lex.specs.declared.scan.Start.{Start}
use Rattle.nesl_lex.specs.declared.scan.Start.TheVariants as start
use Rattle.nesl_lex.specs.Tokens.{Lexeme, number, character, quoted, Placed}
use Rattle.nesl_lex.specs.Lexemes.{is_digit, is_name_byte, is_printable, is_comment_byte, is_text_byte, small_letter, with_digits, Spells, IsGap, HasTokens, HasNoTokenAt, HasNoToken, Ending, whole, halted_at, token_from, Reads, finished, halted, passed, took}
use Rattle.nesl_lex.specs.Reading.{Found, gap, token, no_piece, sign_found, found_as, found_in, named_in, Reading, reading_behind, reading_from, reading_of}
use Rattle.nesl_lex.specs.Scan.{start_of, front_len, sign_in, GapAt, TextAt}
use Rattle.nesl_lex.proofs.Words.{named_is}
use Rattle.nesl_lex.proofs.Shapes.{form_of, form_byte}
use Rattle.nesl_lex.proofs.Pieces.{blank_gap, number_text, number_stuck, name_text, symbol_text, symbol_stuck, character_text, character_stuck, quoted_text, quoted_stuck, comment_gap, comment_stuck}

abbrev FoundAt : List ℕ → Found → Type 0
FoundAt bytes (gap n) = GapAt bytes n
FoundAt bytes (token n x) = TextAt bytes n x
FoundAt bytes no_piece = HasNoToken bytes

either : (bytes : List ℕ) (f : Found) (r : Bool) → (r ≡ true → FoundAt bytes f) → (r ≡ false → HasNoToken bytes) → FoundAt bytes (cond r f no_piece)
either bytes f true t n = t refl
either bytes f false t n = n refl

found_symbol : (bytes : List ℕ) → 0 < length bytes → start_of (get_or bytes 0 0) ≡ start.Other → (r : Option Sign) → sign_in bytes ≡ r → FoundAt bytes (sign_found r)
found_symbol bytes h k (Some s) e = symbol_text bytes h s e
found_symbol bytes h k None e = symbol_stuck bytes h k e

-- what is found is there
stands : (k : Start) (bytes : List ℕ) → 0 < length bytes → start_of (get_or bytes 0 0) ≡ k → FoundAt bytes (found_as k bytes (drop 1 bytes))
stands start.Blank bytes h k = blank_gap bytes h k
stands start.Comment bytes h k = either bytes (gap (front_len is_comment_byte (drop 1 bytes) + 2)) (ltb (front_len is_comment_byte (drop 1 bytes)) (length (drop 1 bytes))) (λ t. comment_gap bytes h k (grind (arith, nat_tests))) (λ f. comment_stuck bytes h k (grind (arith, nat_tests)))
stands start.Number bytes h k = either bytes (token (front_len is_digit bytes) (number (with_digits 0 (take (front_len is_digit bytes) bytes)))) (ltb (with_digits 0 (take (front_len is_digit bytes) bytes)) (2 ^ 63)) (λ t. number_text bytes h k (with_digits 0 (take (front_len is_digit bytes) bytes)) refl (grind (arith, nat_tests))) (λ f. number_stuck bytes h k (grind (arith, nat_tests)))
stands start.Name bytes h k = name_text bytes h k (named_in (map small_letter (take (front_len is_name_byte bytes) bytes))) (named_is (map small_letter (take (front_len is_name_byte bytes) bytes)))
stands start.Character bytes h k = either bytes (token 2 (character (get_or bytes 1 0))) (ltb 1 (length bytes) && is_printable (get_or bytes 1 0)) (λ t. character_text bytes (grind (arith, nat_tests)) k (grind (arith, nat_tests))) (λ f. character_stuck bytes h k (λ l p. grind (arith, nat_tests)))
stands start.Text bytes h k = either bytes (token (front_len is_text_byte (drop 1 bytes) + 2) (quoted (take (front_len is_text_byte (drop 1 bytes)) (drop 1 bytes)))) (ltb (front_len is_text_byte (drop 1 bytes)) (length (drop 1 bytes)) && eqb (get_or (drop 1 bytes) (front_len is_text_byte (drop 1 bytes)) 0) 34) (λ t. quoted_text bytes h k (grind (arith, nat_tests)) (grind (arith, nat_tests))) (λ f. quoted_stuck bytes h k (λ l p. grind (arith, nat_tests)))
stands start.Other bytes h k = found_symbol bytes h k (sign_in bytes) refl

abbrev IsReading : ℕ → List ℕ → Reading → Type 0
IsReading at bytes o = Reads at bytes o.tokens o.ending

gap_long : (us : List ℕ) → IsGap us → 0 < length us
gap_long [] g = absurd g
gap_long (u ∷ us) g = omega arith

pub text_long : (us : List ℕ) (x : Lexeme) → Spells us x → 0 < length us
text_long [] x s = absurd (form_byte [] [] refl (form_of [] (inr (x, s))))
text_long (u ∷ us) x s = omega arith

rest_of : (n : ℕ) (bytes us xs : List ℕ) → bytes ≡ us ++ xs → length us ≡ n → drop n bytes ≡ xs
rest_of n bytes us xs h k = ap (λ (m : ℕ). drop m bytes) (sym k) ∙ ap (λ (ys : List ℕ). drop (length us) ys) h ∙ drop-append_seam us xs

moved : (m n : ℕ) (xs ys : List ℕ) (o : Reading) → m ≡ n → xs ≡ ys → IsReading m xs o → IsReading n ys o
moved m n xs ys o h k r = subst (λ (x : ℕ). IsReading x ys o) h (subst (λ (zs : List ℕ). IsReading m zs o) k r)

behind_reads : (at : ℕ) (bytes : List ℕ) (f : Found) → FoundAt bytes f → (next : ℕ → Reading) → ((n : ℕ) → 0 < n → IsReading (at + n) (drop n bytes) (next n)) → IsReading at bytes (reading_behind at f next)
behind_reads at bytes (gap n) g next r = passed g.gap g.rest g.whole g.is_gap
    (moved (at + n) (at + length g.gap) (drop n bytes) g.rest (next n) (ap (λ (m : ℕ). at + m) (sym g.long)) (rest_of n bytes g.gap g.rest g.whole g.long) (r n (omega (arith, g.long, gap_long g.gap g.is_gap))))
behind_reads at bytes (token n x) g next r =
    subst (λ (m : ℕ). Reads at bytes (token_from x at m ∷ (next n).tokens) (next n).ending) g.long
    (took g.text g.rest x g.whole g.spells g.longest
    (moved (at + n) (at + length g.text) (drop n bytes) g.rest (next n) (ap (λ (m : ℕ). at + m) (sym g.long)) (rest_of n bytes g.text g.rest g.whole g.long) (r n (omega (arith, g.long, text_long g.text x g.spells)))))
behind_reads at bytes no_piece g next r = halted g

no_bytes : (at : ℕ) (bytes : List ℕ) → length bytes ≤ 0 → Reads at bytes [] whole
no_bytes at [] h = finished
no_bytes at (b ∷ bs) h = absurd (omega arith)

-- the computed reading of at most `most` bytes is a reading of them
is_reading : (most at : ℕ) (bytes : List ℕ) → length bytes ≤ most → IsReading at bytes (reading_from most at bytes)
is_reading zero at bytes h = no_bytes at bytes h
is_reading (suc most) at [] h = finished
is_reading (suc most) at (b ∷ bs) h = behind_reads at (b ∷ bs) (found_in (b ∷ bs)) (stands (start_of b) (b ∷ bs) (omega arith) refl) (λ n. reading_from most (at + n) (drop n (b ∷ bs)))
    (λ n l. is_reading most (at + n) (drop n (b ∷ bs)) (omega (arith, length-drop n (b ∷ bs))))

ended : (line : List ℕ) (ts : List Placed) (e : Ending) → Reads 0 line ts e → ((us : List Placed) × HasTokens line us) ⊎ ((at : ℕ) × HasNoTokenAt line at)
ended line ts whole r = inl (ts, r)
ended line ts (halted_at at) r = inr (at, (ts, r))

-- the computed reading is a reading of the line
pub reading_computes : (line : List ℕ) → Reads 0 line (reading_of line).tokens (reading_of line).ending
reading_computes line = is_reading (length line) 0 line (omega arith)

-- each line is read to its end or to a place where it is stuck
pub each_ends : (line : List ℕ) → ((us : List Placed) × HasTokens line us) ⊎ ((at : ℕ) × HasNoTokenAt line at)
each_ends line = ended line (reading_of line).tokens (reading_of line).ending (reading_computes line)
