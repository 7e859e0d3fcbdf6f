-- Tokens that are cut at a sign.
use Rattle.std.proofs.Common.{◌≡◌, ℕ, ◌+◌, ◌<◌, Bool, true, false, cond, length, take, drop, get_or, List, [], ◌∷◌, ◌++◌, Option, Some, None, refl, ap, sym, ◌∙◌}
use Rattle.std.specs.Option.{option_map}
use Rattle.std.proofs.lemmas.List.{map-append, take_more, at_drop_more, take-append-drop}
use Rattle.nesl_lex.specs.Tokens.{Placed, Lexeme, reserved, symbol, placed, placed_of, lexeme_of}
use Rattle.nesl_lex.specs.Tokens as tokens
use Rattle.nesl_lex.specs.declared.token.Token.{Token}
use Rattle.nesl_lex.specs.declared.token.Span.{Span}
use Rattle.nesl_lex.specs.declared.token.Word.{Word}
use Rattle.nesl_lex.specs.declared.token.Word.TheVariants as word
use Rattle.nesl_lex.specs.declared.token.Sign.{Sign}
use Rattle.nesl_lex.specs.declared.token.Sign.TheVariants as sign
use Rattle.nesl_syntax.specs.declared.cut.Divider.{Divider}
use Rattle.nesl_syntax.specs.declared.cut.Divider.TheVariants as divider
use Rattle.nesl_syntax_tree.specs.Trees.{PatternTree, TypeTree}
use Rattle.nesl_syntax_tree.specs.Grammar.{sign_at, word_at, name_at, IsType, AreTypes, IsPattern, ArePatterns}
use Rattle.nesl_syntax_tree.specs.Grammar as grammar
use Rattle.nesl_syntax.specs.Reading.{divides, Halves, and_front, cut}

-- where the rest isn't cut either
uncut_rest : (b : Bool) (t : Placed) (ts : List Placed) (o : Option Halves) → cond b (Some ([], ts)) (option_map (and_front t) o) ≡ None → (b ≡ false) × (o ≡ None)
uncut_rest true t ts o h = cc
uncut_rest false t ts None h = (refl, refl)
uncut_rest false t ts (Some c) h = cc

pub cut_here : (d : Divider) (us vs : List Placed) (t : Placed) → cut d us ≡ None → divides d t.lexeme ≡ true → cut d (us ++ t ∷ vs) ≡ Some (us, vs)
cut_here d [] vs t h k = rw k refl
cut_here d (u ∷ us) vs t h k =
    let r = uncut_rest (divides d u.lexeme) u us (cut d us) h in
    let e = cut_here d us vs t r.1 k in
    rw (r.0, e) refl

pub uncut_both : (d : Divider) (us vs : List Placed) → cut d us ≡ None → cut d vs ≡ None → cut d (us ++ vs) ≡ None
uncut_both d [] vs h k = k
uncut_both d (u ∷ us) vs h k =
    let r = uncut_rest (divides d u.lexeme) u us (cut d us) h in
    let e = uncut_both d us vs r.1 k in
    rw (r.0, e) refl

pub uncut_one : (d : Divider) (t : Placed) → divides d t.lexeme ≡ false → cut d (t ∷ []) ≡ None
uncut_one d t k = rw k refl

pub uncut_next : (d : Divider) (t : Placed) (ts : List Placed) → divides d t.lexeme ≡ false → cut d ts ≡ None → cut d (t ∷ ts) ≡ None
uncut_next d t ts k h = rw (k, h) refl

abbrev pub divider_sign : Divider → Sign
divider_sign divider.Equal = sign.Equal
divider_sign divider.Colon = sign.Colon
divider_sign divider.RightArrow = sign.RightArrow
divider_sign divider.DoubleColon = sign.DoubleColon

divided_by : (d : Divider) (x : Lexeme) → divides d x ≡ true → x ≡ symbol (divider_sign d)
divided_by divider.Equal (symbol sign.Equal) h = refl
divided_by divider.Colon (symbol sign.Colon) h = refl
divided_by divider.RightArrow (symbol sign.RightArrow) h = refl
divided_by divider.DoubleColon (symbol sign.DoubleColon) h = refl
divided_by _ _ h = cc

abbrev left_of : Option Halves → List Placed
left_of (Some c) = c.0
left_of None = []

abbrev right_of : Option Halves → List Placed
right_of (Some c) = c.1
right_of None = []

-- what is cut is whole with the sign between
pub record WholeOf (d : Divider) (ts us vs : List Placed) : Type 0 where
  pub at : Span
  pub whole : ts ≡ us ++ sign_at (divider_sign d) at ∷ vs

pub cut_whole : (d : Divider) (ts us vs : List Placed) → cut d ts ≡ Some (us, vs) → WholeOf d ts us vs
cut_whole d [] us vs h = cc
cut_whole d (t ∷ ts) us vs h = by_token (divides d t.lexeme) (cut d ts) refl (λ a b k. cut_whole d ts a b k) h
  where
    by_token : {t : Placed} {ts us vs : List Placed} (b : Bool) (o : Option Halves) → divides d t.lexeme ≡ b → ((a c : List Placed) → o ≡ Some (a, c) → WholeOf d ts a c) → cond b (Some ([], ts)) (option_map (and_front t) o) ≡ Some (us, vs) → WholeOf d (t ∷ ts) us vs
    by_token {t = t} {ts = ts} {us = us} {vs = vs} true o e f h =
        let k : t.lexeme ≡ symbol (divider_sign d) = divided_by d t.lexeme e in
        let u : [] ≡ us = ap left_of h in
        let v : ts ≡ vs = ap right_of h in
        record { at = t.span; whole = ap (λ (x : Lexeme). (record { lexeme = x; span = t.span }) ∷ ts) k ∙ ap (λ (x : List Placed). sign_at (divider_sign d) t.span ∷ x) v ∙ ap (λ (x : List Placed). x ++ sign_at (divider_sign d) t.span ∷ vs) u }
    by_token {t = t} {us = us} {vs = vs} false (Some c) e f h =
        let w = f c.0 c.1 refl in
        let u : t ∷ c.0 ≡ us = ap left_of h in
        let v : c.1 ≡ vs = ap right_of h in
        record { at = w.at; whole = ap (λ (x : List Placed). t ∷ x) w.whole ∙ ap (λ (x : List Placed). t ∷ (c.0 ++ sign_at (divider_sign d) w.at ∷ x)) v ∙ ap (λ (x : List Placed). x ++ sign_at (divider_sign d) w.at ∷ vs) u }
    by_token false None e f h = cc

name_divides : (d : Divider) (x : List ℕ) → divides d (tokens.name x) ≡ false
name_divides divider.Equal x = refl
name_divides divider.Colon x = refl
name_divides divider.RightArrow x = refl
name_divides divider.DoubleColon x = refl

open_divides : (d : Divider) → divides d (symbol sign.OpenParenthesis) ≡ false
open_divides divider.Equal = refl
open_divides divider.Colon = refl
open_divides divider.RightArrow = refl
open_divides divider.DoubleColon = refl

close_divides : (d : Divider) → divides d (symbol sign.CloseParenthesis) ≡ false
close_divides divider.Equal = refl
close_divides divider.Colon = refl
close_divides divider.RightArrow = refl
close_divides divider.DoubleColon = refl

comma_divides : (d : Divider) → divides d (symbol sign.Comma) ≡ false
comma_divides divider.Equal = refl
comma_divides divider.Colon = refl
comma_divides divider.RightArrow = refl
comma_divides divider.DoubleColon = refl

open_bracket_divides : (d : Divider) → divides d (symbol sign.OpenBracket) ≡ false
open_bracket_divides divider.Equal = refl
open_bracket_divides divider.Colon = refl
open_bracket_divides divider.RightArrow = refl
open_bracket_divides divider.DoubleColon = refl

close_bracket_divides : (d : Divider) → divides d (symbol sign.CloseBracket) ≡ false
close_bracket_divides divider.Equal = refl
close_bracket_divides divider.Colon = refl
close_bracket_divides divider.RightArrow = refl
close_bracket_divides divider.DoubleColon = refl

word_divides : (d : Divider) (w : Word) → divides d (reserved w) ≡ false
word_divides divider.Equal w = refl
word_divides divider.Colon w = refl
word_divides divider.RightArrow w = refl
word_divides divider.DoubleColon w = refl

in_rounds : (d : Divider) (us : List Placed) (s t : Span) → cut d us ≡ None → cut d (sign_at sign.OpenParenthesis s ∷ (us ++ sign_at sign.CloseParenthesis t ∷ [])) ≡ None
in_rounds d us s t h = uncut_next d (sign_at sign.OpenParenthesis s) (us ++ sign_at sign.CloseParenthesis t ∷ []) (open_divides d) (uncut_both d us (sign_at sign.CloseParenthesis t ∷ []) h (uncut_one d (sign_at sign.CloseParenthesis t) (close_divides d)))

in_brackets : (d : Divider) (us : List Placed) (s t : Span) → cut d us ≡ None → cut d (sign_at sign.OpenBracket s ∷ (us ++ sign_at sign.CloseBracket t ∷ [])) ≡ None
in_brackets d us s t h = uncut_next d (sign_at sign.OpenBracket s) (us ++ sign_at sign.CloseBracket t ∷ []) (open_bracket_divides d) (uncut_both d us (sign_at sign.CloseBracket t ∷ []) h (uncut_one d (sign_at sign.CloseBracket t) (close_bracket_divides d)))

with_comma : (d : Divider) (us vs : List Placed) (s : Span) → cut d us ≡ None → cut d vs ≡ None → cut d (us ++ sign_at sign.Comma s ∷ vs) ≡ None
with_comma d us vs s h k = uncut_both d us (sign_at sign.Comma s ∷ vs) h (uncut_next d (sign_at sign.Comma s) vs (comma_divides d) k)

-- no pattern has a divider, and no type
mutual
  pub pattern_uncut : {us : List Placed} {p : PatternTree} (d : Divider) → IsPattern us p → cut d us ≡ None
  pattern_uncut d (grammar.pattern_name x s) = uncut_one d (name_at x s) (name_divides d x)
  pattern_uncut d (grammar.pattern_record {us = us} x s t u q) = uncut_next d (name_at x s) (sign_at sign.OpenParenthesis t ∷ (us ++ sign_at sign.CloseParenthesis u ∷ [])) (name_divides d x) (in_rounds d us t u (patterns_uncut d q))
  pattern_uncut d (grammar.pattern_rounds {us = us} s t q) = in_rounds d us s t (patterns_uncut d q)

  pub patterns_uncut : {us : List Placed} {p : PatternTree} (d : Divider) → ArePatterns us p → cut d us ≡ None
  patterns_uncut d (grammar.one_pattern q) = pattern_uncut d q
  patterns_uncut d (grammar.pattern_pairs {us = us} {vs = vs} s i j) = with_comma d us vs s (pattern_uncut d i) (patterns_uncut d j)

mutual
  pub type_uncut : {us : List Placed} {a : TypeTree} (d : Divider) → IsType us a → cut d us ≡ None
  type_uncut d (grammar.type_int s) = uncut_one d (word_at word.Int s) (word_divides d word.Int)
  type_uncut d (grammar.type_bool s) = uncut_one d (word_at word.Bool s) (word_divides d word.Bool)
  type_uncut d (grammar.type_char s) = uncut_one d (word_at word.Char s) (word_divides d word.Char)
  type_uncut d (grammar.type_name x s) = uncut_one d (name_at x s) (name_divides d x)
  type_uncut d (grammar.type_sequence {us = us} s t q) = in_brackets d us s t (type_uncut d q)
  type_uncut d (grammar.type_rounds {us = us} s t q) = in_rounds d us s t (types_uncut d q)

  pub types_uncut : {us : List Placed} {a : TypeTree} (d : Divider) → AreTypes us a → cut d us ≡ None
  types_uncut d (grammar.one_type q) = type_uncut d q
  types_uncut d (grammar.type_pairs {us = us} {vs = vs} s i j) = with_comma d us vs s (type_uncut d i) (types_uncut d j)

-- the tokens before one that divides, and after it
pub cut_at : (d : Divider) (xs : List Token) (i : ℕ) (t : Token) → i < length xs → t ≡ get_or xs i t → cut d (placed (take i xs)) ≡ None → divides d (lexeme_of t.kind) ≡ true → cut d (placed xs) ≡ Some (placed (take i xs), placed (drop (i + 1) xs))
cut_at d xs i t l g h k =
    let whole : xs ≡ take i xs ++ t ∷ drop (i + 1) xs = sym (take-append-drop i xs) ∙ at_drop_more (λ (ys : List Token). take i xs ++ ys) xs i t l ∙ ap (λ (x : Token). take i xs ++ x ∷ drop (i + 1) xs) (sym g) in
    ap (λ (ys : List Token). cut d (placed ys)) whole ∙ ap (cut d) (map-append placed_of (take i xs) (t ∷ drop (i + 1) xs)) ∙ cut_here d _ _ (placed_of t) h k

pub uncut_to : (d : Divider) (xs : List Token) (i : ℕ) (t : Token) → i < length xs → t ≡ get_or xs i t → cut d (placed (take i xs)) ≡ None → divides d (lexeme_of t.kind) ≡ false → cut d (placed (take (i + 1) xs)) ≡ None
uncut_to d xs i t l g h k =
    let whole : take (i + 1) xs ≡ take i xs ++ t ∷ [] = take_more xs i t l ∙ ap (λ (x : Token). take i xs ++ x ∷ []) (sym g) in
    ap (λ (ys : List Token). cut d (placed ys)) whole ∙ ap (cut d) (map-append placed_of (take i xs) (t ∷ [])) ∙ uncut_both d _ _ h (uncut_one d (placed_of t) k)
