-- A turn of the loop over the bytes, and its end.
use Rattle.std.proofs.Common.{◌≡◌, ℕ, ◌+◌, ◌-◌, ◌≤◌, List, [], ◌∷◌, ◌++◌, length, length-append, length-drop, append_assoc, append-nil, take, drop, ap, sym, subst, ◌∙◌, arith}
use Rattle.std.proofs.lemmas.List.{drop-drop, map-append, drop_all}
use Rattle.std.proofs.Math.Seq.{drop-append_seam}
use Rattle.nesl_lex.specs.declared.token.Token.{Token}
use Rattle.nesl_lex.specs.Tokens.{Lexeme, Placed, placed_of, placed}
use Rattle.nesl_lex.specs.Lexemes.{HasNoToken, whole, halted_at, token_from, Reads, finished, halted, passed, took, HasTokens, HasNoTokenAt}
use Rattle.nesl_lex.specs.Scan.{GapAt, TextAt}
use Rattle.nesl_lex.specs.Progress.{Progress}
use Rattle.nesl_lex.proofs.Pieces.{from_of}
use Rattle.nesl_lex.proofs.Unique.{one_reading}

-- after a front of what is left
left_behind : (line : List ℕ) (at n : ℕ) (front rest : List ℕ) → take (length line - at) (drop at line) ≡ front ++ rest → length front ≡ n → drop (at + n) line ≡ rest
left_behind line at n front rest h k =
    let e : drop at line ≡ front ++ rest = sym (from_of at line) ∙ h in
    sym (drop-drop n at line) ∙ ap (drop n) e ∙ ap (λ (m : ℕ). drop m (front ++ rest)) (sym k) ∙ drop-append_seam front rest

fits_behind : (line : List ℕ) (at n : ℕ) (front rest : List ℕ) → at ≤ length line → take (length line - at) (drop at line) ≡ front ++ rest → length front ≡ n → at + n ≤ length line
fits_behind line at n front rest w h k =
    let e : drop at line ≡ front ++ rest = sym (from_of at line) ∙ h in
    omega (arith, ap length e, length-append front rest, length-drop at line)

pub gap_turn : (line : List ℕ) (at n : ℕ) (so_far : List Placed) → Progress line at so_far → GapAt (take (length line - at) (drop at line)) n → Progress line (at + n) so_far
gap_turn line at n so_far p g = record {
  within = fits_behind line at n g.gap g.rest p.within g.whole g.long;
  completes = λ ts e r.
      let d = left_behind line at n g.gap g.rest g.whole g.long in
      let r' : Reads (at + length g.gap) g.rest ts e = subst (λ (m : ℕ). Reads (at + m) g.rest ts e) (sym g.long) (subst (λ (xs : List ℕ). Reads (at + n) xs ts e) d r) in
      p.completes ts e (passed g.gap g.rest (sym (from_of at line) ∙ g.whole) g.is_gap r');
}

pub text_turn : (line : List ℕ) (at n : ℕ) (x : Lexeme) (so_far now : List Placed) → now ≡ so_far ++ token_from x at n ∷ [] → Progress line at so_far → TextAt (take (length line - at) (drop at line)) n x → Progress line (at + n) now
text_turn line at n x so_far now w p g = record {
  within = fits_behind line at n g.text g.rest p.within g.whole g.long;
  completes = λ ts e r.
      let d = left_behind line at n g.text g.rest g.whole g.long in
      let t = token_from x at n in
      let r' : Reads (at + length g.text) g.rest ts e = subst (λ (m : ℕ). Reads (at + m) g.rest ts e) (sym g.long) (subst (λ (xs : List ℕ). Reads (at + n) xs ts e) d r) in
      let k : Reads at (drop at line) (token_from x at (length g.text) ∷ ts) e = took g.text g.rest x (sym (from_of at line) ∙ g.whole) g.spells g.longest r' in
      let k' : Reads at (drop at line) (t ∷ ts) e = subst (λ (m : ℕ). Reads at (drop at line) (token_from x at m ∷ ts) e) g.long k in
      subst (λ (us : List Placed). Reads 0 line us e) (sym (append_assoc so_far (t ∷ []) ts) ∙ ap (λ (us : List Placed). us ++ ts) (sym w)) (p.completes (t ∷ ts) e k');
}

pub pushed : (items now : List Token) (t : Token) → now ≡ items ++ t ∷ [] → placed now ≡ placed items ++ placed_of t ∷ []
pushed items now t h = ap placed h ∙ map-append placed_of items (t ∷ [])

pub at_end : (line : List ℕ) (at : ℕ) (so_far : List Placed) → length line ≤ at → Progress line at so_far → HasTokens line so_far
at_end line at so_far h p =
    let d : drop at line ≡ [] = drop_all at line h in
    subst (λ (us : List Placed). Reads 0 line us whole) (append-nil so_far) (p.completes [] whole (subst (λ (xs : List ℕ). Reads at xs [] whole) (sym d) finished))

pub at_stop : (line : List ℕ) (at : ℕ) (so_far : List Placed) → HasNoToken (take (length line - at) (drop at line)) → Progress line at so_far → HasNoTokenAt line at
at_stop line at so_far s p = (so_far ++ [], p.completes [] (halted_at at) (halted (subst HasNoToken (from_of at line) s)))

pub one_list : (line : List ℕ) (ts us : List Placed) → HasTokens line ts → HasTokens line us → us ≡ ts
one_list line ts us p q = (one_reading q p).tokens

pub not_both : (line : List ℕ) (at : ℕ) (ts : List Placed) → HasNoTokenAt line at → HasTokens line ts → ⊥
not_both line at ts s p = let e = (one_reading s.1 p).endings in cc

pub one_place : (line : List ℕ) (at other : ℕ) → HasNoTokenAt line at → HasNoTokenAt line other → other ≡ at
one_place line at other s t = let e = (one_reading s.1 t.1).endings in cc
