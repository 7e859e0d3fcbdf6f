-- A line's tokens, its one line, and what is read.
use Rattle.std.proofs.Common.{◌≡◌, ◌≤◌, ◌<◌, ℕ, Bool, true, false, cond, List, [], ◌∷◌, ◌++◌, codes, length, reverse, Option, Some, None, refl, ap, sym, subst, ◌∙◌, arith, append_assoc}
use Rattle.std.specs.Option.{option_map, option_and_then}
use Rattle.std.proofs.lemmas.Option.{option_and_then_some}
use Rattle.std.proofs.lemmas.List.{reverse-reverse, reverse-append, map-append}
use Rattle.nesl_lex.specs.Tokens.{Placed, Lexeme, reserved, symbol, lexeme_of, placed_of, placed}
use Rattle.nesl_lex.specs.declared.token.Token.{Token}
use Rattle.nesl_lex.specs.Tokens as tokens
use Rattle.nesl_lex.specs.declared.token.Span.{Span}
use Rattle.nesl_lex.specs.declared.token.Word.TheVariants as word
use Rattle.nesl_lex.specs.declared.token.Sign.TheVariants as sign
use Rattle.std.specs.Prelude.{Result, Ok, Err, IfOk, IsErrOf}
use Rattle.nesl_syntax.specs.declared.line.Line.{Line}
use Rattle.nesl_syntax.specs.declared.cut.Divider.TheVariants as divider
use Rattle.nesl_syntax_open.specs.declared.fault.ParseFault.{ParseFault}
use Rattle.nesl_syntax_open.specs.declared.fault.ParseFault.TheVariants.{Syntax, Nested, Memory}
use Rattle.nesl_syntax.specs.Given.{GivesLine, line_tree}
use Rattle.nesl_syntax.specs.Reading.{form_with, form_in, closed_in, is_semicolon, behind_token, Halves, cut, head_in, function_of, function_with, function_named, datatype_named, typed_named, bound_with, bound_in, begun_line, line_in, command_with, command_in, is_text}
use Rattle.nesl_syntax_tree.specs.Trees.{Tree, FormTree, nothing, function, datatype, bind, evaluate, show_names, show_budget, show_type, form_height}
use Rattle.nesl_syntax_tree.specs.Grammar.{token_at, sign_at, word_at, name_at}
use Rattle.nesl_syntax_tree.specs.Lines.{IsForm, no_tokens, functions, datatypes, binds, evaluates, names_shown, budget_shown, type_shown}
use Rattle.nesl_syntax_open.specs.Machine.{expression, written_type}
use Rattle.nesl_syntax_open.proofs.Complete.{reads_it, reads_type}
use Rattle.nesl_syntax.proofs.Sound.{is_read, is_type_read}
use Rattle.nesl_syntax.proofs.Cuts.{cut_here, cut_whole}
use Rattle.nesl_syntax.proofs.Texts.{text_same}
use Rattle.nesl_syntax.proofs.Members.{both_parts, mapped}
use Rattle.nesl_syntax.proofs.Signatures.{head_read, head_uncut, head_is}

-- a list that ends in an element has one front and one last element
pub record SameEnds (us vs : List Placed) (s t : Placed) : Type 0 where
  pub fronts : us ≡ vs
  pub lasts : s ≡ t

same_ends : (us vs : List Placed) (s t : Placed) → us ++ s ∷ [] ≡ vs ++ t ∷ [] → SameEnds us vs s t
same_ends us vs s t h =
    let e : s ∷ reverse us ≡ t ∷ reverse vs = sym (reverse-append us (s ∷ [])) ∙ ap reverse h ∙ reverse-append vs (t ∷ []) in
    let f : reverse us ≡ reverse vs = cc in
    record { fronts = sym (reverse-reverse us) ∙ ap reverse f ∙ reverse-reverse vs; lasts = cc }

-- an expression's tokens begin as no other line's do
bound_eval : (x : List ℕ) (y : Lexeme) (s t : Span) (ts : List Placed) (e : Tree) → expression (name_at x s ∷ (token_at y t ∷ ts)) ≡ Some e → bound_with x y (name_at x s ∷ (token_at y t ∷ ts)) ts ≡ Some (evaluate e)
bound_eval x (symbol sign.Equal) s t ts e h = cc
bound_eval x _ s t ts e h = ap (option_map evaluate) h

named_eval : (x : List ℕ) (s : Span) (ts : List Placed) (e : Tree) → expression (name_at x s ∷ ts) ≡ Some e → bound_in x (name_at x s ∷ ts) ts ≡ Some (evaluate e)
named_eval x s [] e h = ap (option_map evaluate) h
named_eval x s (t ∷ ts) e h = bound_eval x t.lexeme s t.span ts e h

begun_eval : (x : Lexeme) (s : Span) (ts : List Placed) (e : Tree) → expression (token_at x s ∷ ts) ≡ Some e → begun_line x (token_at x s ∷ ts) ts ≡ Some (evaluate e)
begun_eval (reserved word.Function) s ts e h = cc
begun_eval (reserved word.Datatype) s ts e h = cc
begun_eval (symbol sign.Colon) s ts e h = cc
begun_eval (tokens.name x) s ts e h = named_eval x s ts e h
begun_eval _ s ts e h = ap (option_map evaluate) h

line_eval : (ts : List Placed) (e : Tree) → expression ts ≡ Some e → line_in ts ≡ Some (evaluate e)
line_eval [] e h = ap (option_map evaluate) h
line_eval (t ∷ ts) e h = begun_eval t.lexeme t.span ts e h

-- how a line is read
pub data Reads : List Placed → FormTree → Type 0 where
  reads_nothing : Reads [] nothing
  reads_command : {us : List Placed} {l : FormTree} → command_in us ≡ Some l → Reads us l
  reads_closed : {l : FormTree} (rest : List Placed) (s : Span) → line_in rest ≡ Some l → Reads (rest ++ (sign_at sign.Semicolon s ∷ [])) l

pub reads : {us : List Placed} {l : FormTree} → IsForm us l → Reads us l
reads no_tokens = reads_nothing
reads (functions {us = us} {vs = vs} {p = p} {s = s} {e = e} x i j t u h q) =
    let c = cut_here divider.Equal us vs (sign_at sign.Equal t) (head_uncut h) refl in
    let k : line_in (word_at word.Function i ∷ (name_at x j ∷ (us ++ (sign_at sign.Equal t ∷ vs)))) ≡ Some (function x p s e) = rw (c, head_read h, reads_it q) refl in
    subst (λ (ts : List Placed). Reads (word_at word.Function i ∷ (name_at x j ∷ ts)) (function x p s e)) (append_assoc us (sign_at sign.Equal t ∷ vs) (sign_at sign.Semicolon u ∷ [])) (reads_closed (word_at word.Function i ∷ (name_at x j ∷ (us ++ (sign_at sign.Equal t ∷ vs)))) u k)
reads (datatypes {us = us} x i j u q) = reads_closed (word_at word.Datatype i ∷ (name_at x j ∷ us)) u (rw (reads_type q) refl)
reads (binds {us = us} x s t u q) = reads_closed (name_at x s ∷ (sign_at sign.Equal t ∷ us)) u (ap (option_map (bind x)) (reads_it q))
reads (evaluates {us = us} {e = e} u q) = reads_closed us u (line_eval us e (reads_it q))
reads (names_shown c s) = reads_command refl
reads (budget_shown c s) = reads_command refl
reads (type_shown {us = us} c s u q) = reads_closed (sign_at sign.Colon c ∷ (name_at (codes "type") s ∷ us)) u (ap (option_map show_type) (reads_it q))

-- what is read is so
eval_is : (ts : List Placed) (s : Span) (l : FormTree) → option_map evaluate (expression ts) ≡ Some l → IsForm (ts ++ (sign_at sign.Semicolon s ∷ [])) l
eval_is ts s l h = let m = mapped evaluate (expression ts) l h in subst (λ (x : FormTree). IsForm (ts ++ (sign_at sign.Semicolon s ∷ [])) x) m.2 (evaluates s (is_read ts m.0 m.1))

bound_is : (x : List ℕ) (y : Lexeme) (s t u : Span) (ts : List Placed) (l : FormTree) → bound_with x y (name_at x s ∷ (token_at y t ∷ ts)) ts ≡ Some l → IsForm (name_at x s ∷ (token_at y t ∷ (ts ++ (sign_at sign.Semicolon u ∷ [])))) l
bound_is x (symbol sign.Equal) s t u ts l h = let m = mapped (bind x) (expression ts) l h in subst (λ (y : FormTree). IsForm (name_at x s ∷ (sign_at sign.Equal t ∷ (ts ++ (sign_at sign.Semicolon u ∷ [])))) y) m.2 (binds x s t u (is_read ts m.0 m.1))
bound_is x y s t u ts l h = eval_is (name_at x s ∷ (token_at y t ∷ ts)) u l h

named_is : (x : List ℕ) (s u : Span) (ts : List Placed) (l : FormTree) → bound_in x (name_at x s ∷ ts) ts ≡ Some l → IsForm (name_at x s ∷ (ts ++ (sign_at sign.Semicolon u ∷ []))) l
named_is x s u [] l h = eval_is (name_at x s ∷ []) u l h
named_is x s u (t ∷ ts) l h = bound_is x t.lexeme s t.span u ts l h

function_as : (x : List ℕ) (i j u : Span) (ts : List Placed) (l : FormTree) (o : Option Halves) → cut divider.Equal ts ≡ o → function_with x o ≡ Some l → IsForm (word_at word.Function i ∷ (name_at x j ∷ (ts ++ (sign_at sign.Semicolon u ∷ [])))) l
function_as x i j u ts l None e h = cc
function_as x i j u ts l (Some c) e h =
    let b = both_parts (function_of x) (head_in c.0) (expression c.1) l h in
    let w = cut_whole divider.Equal ts c.0 c.1 e in
    let p = functions x i j w.at u (head_is c.0 b.left b.is_left) (is_read c.1 b.right b.is_right) in
    let whole : c.0 ++ (sign_at sign.Equal w.at ∷ (c.1 ++ (sign_at sign.Semicolon u ∷ []))) ≡ ts ++ (sign_at sign.Semicolon u ∷ []) = sym (append_assoc c.0 (sign_at sign.Equal w.at ∷ c.1) (sign_at sign.Semicolon u ∷ [])) ∙ ap (λ (us : List Placed). us ++ (sign_at sign.Semicolon u ∷ [])) (sym w.whole) in
    subst (λ (y : FormTree). IsForm (word_at word.Function i ∷ (name_at x j ∷ (ts ++ (sign_at sign.Semicolon u ∷ [])))) y) b.is (subst (λ (us : List Placed). IsForm (word_at word.Function i ∷ (name_at x j ∷ us)) (function_of x b.left b.right)) whole p)

function_is : (y : Lexeme) (i j u : Span) (ts : List Placed) (l : FormTree) → function_named y ts ≡ Some l → IsForm (word_at word.Function i ∷ (token_at y j ∷ (ts ++ (sign_at sign.Semicolon u ∷ [])))) l
function_is (tokens.name x) i j u ts l h = function_as x i j u ts l (cut divider.Equal ts) refl h
function_is _ i j u ts l h = cc

datatype_is : (y : Lexeme) (i j u : Span) (ts : List Placed) (l : FormTree) → datatype_named y ts ≡ Some l → IsForm (word_at word.Datatype i ∷ (token_at y j ∷ (ts ++ (sign_at sign.Semicolon u ∷ [])))) l
datatype_is (tokens.name x) i j u ts l h =
    let m = mapped (datatype x) (written_type ts) l h in
    subst (λ (y : FormTree). IsForm (word_at word.Datatype i ∷ (name_at x j ∷ (ts ++ (sign_at sign.Semicolon u ∷ [])))) y) m.2 (datatypes x i j u (is_type_read ts m.0 m.1))
datatype_is _ i j u ts l h = cc

typed_as : (x : List ℕ) (c s u : Span) (ts : List Placed) (l : FormTree) (b : Bool) → is_text x (codes "type") ≡ b → cond b (option_map show_type (expression ts)) None ≡ Some l → IsForm (sign_at sign.Colon c ∷ (name_at x s ∷ (ts ++ (sign_at sign.Semicolon u ∷ [])))) l
typed_as x c s u ts l true e h =
    let m = mapped show_type (expression ts) l h in
    let p = subst (λ (y : FormTree). IsForm (sign_at sign.Colon c ∷ (name_at (codes "type") s ∷ (ts ++ (sign_at sign.Semicolon u ∷ [])))) y) m.2 (type_shown c s u (is_read ts m.0 m.1)) in
    subst (λ (y : List ℕ). IsForm (sign_at sign.Colon c ∷ (name_at y s ∷ (ts ++ (sign_at sign.Semicolon u ∷ [])))) l) (sym (text_same x (codes "type") e)) p
typed_as x c s u ts l false e h = cc

typed_is : (y : Lexeme) (c s u : Span) (ts : List Placed) (l : FormTree) → typed_named y ts ≡ Some l → IsForm (sign_at sign.Colon c ∷ (token_at y s ∷ (ts ++ (sign_at sign.Semicolon u ∷ [])))) l
typed_is (tokens.name x) c s u ts l h = typed_as x c s u ts l (is_text x (codes "type")) refl h
typed_is _ c s u ts l h = cc

begun_is : (x : Lexeme) (s u : Span) (ts : List Placed) (l : FormTree) → begun_line x (token_at x s ∷ ts) ts ≡ Some l → IsForm (token_at x s ∷ (ts ++ (sign_at sign.Semicolon u ∷ []))) l
begun_is (reserved word.Function) s u [] l h = cc
begun_is (reserved word.Function) s u (t ∷ ts) l h = function_is t.lexeme s t.span u ts l h
begun_is (reserved word.Datatype) s u [] l h = cc
begun_is (reserved word.Datatype) s u (t ∷ ts) l h = datatype_is t.lexeme s t.span u ts l h
begun_is (symbol sign.Colon) s u [] l h = cc
begun_is (symbol sign.Colon) s u (t ∷ ts) l h = typed_is t.lexeme s t.span u ts l h
begun_is (tokens.name x) s u ts l h = named_is x s u ts l h
begun_is x s u ts l h = eval_is (token_at x s ∷ ts) u l h

pub line_is : (ts : List Placed) (s : Span) (l : FormTree) → line_in ts ≡ Some l → IsForm (ts ++ (sign_at sign.Semicolon s ∷ [])) l
line_is [] s l h = eval_is [] s l h
line_is (t ∷ ts) s l h = begun_is t.lexeme t.span s ts l h

-- the commands that end in no ;
word_is : (x : List ℕ) (c s : Span) (l : FormTree) (a b : Bool) → is_text x (codes "names") ≡ a → is_text x (codes "budget") ≡ b → cond a (Some show_names) (cond b (Some show_budget) None) ≡ Some l → IsForm (sign_at sign.Colon c ∷ (name_at x s ∷ [])) l × (form_height l ≡ 0)
word_is x c s l true b e f h =
    let k : show_names ≡ l = cc in
    (subst (λ (y : FormTree). IsForm (sign_at sign.Colon c ∷ (name_at x s ∷ [])) y) k (subst (λ (y : List ℕ). IsForm (sign_at sign.Colon c ∷ (name_at y s ∷ [])) show_names) (sym (text_same x (codes "names") e)) (names_shown c s)), ap form_height (sym k))
word_is x c s l false true e f h =
    let k : show_budget ≡ l = cc in
    (subst (λ (y : FormTree). IsForm (sign_at sign.Colon c ∷ (name_at x s ∷ [])) y) k (subst (λ (y : List ℕ). IsForm (sign_at sign.Colon c ∷ (name_at y s ∷ [])) show_budget) (sym (text_same x (codes "budget") f)) (budget_shown c s)), ap form_height (sym k))
word_is x c s l false false e f h = cc

command_as : (x y : Lexeme) (c s : Span) (l : FormTree) → command_with x y ≡ Some l → IsForm (token_at x c ∷ (token_at y s ∷ [])) l × (form_height l ≡ 0)
command_as (symbol sign.Colon) (tokens.name x) c s l h = word_is x c s l (is_text x (codes "names")) (is_text x (codes "budget")) refl refl h
command_as _ _ c s l h = cc

command_is : (ts : List Placed) (l : FormTree) → command_in ts ≡ Some l → IsForm ts l × (form_height l ≡ 0)
command_is (t ∷ u ∷ []) l h = command_as t.lexeme u.lexeme t.span u.span l h
command_is _ l h = cc

no_word : (x : Lexeme) → command_with x (symbol sign.Semicolon) ≡ None
no_word (symbol sign.Colon) = refl
no_word _ = refl

no_command : (rest : List Placed) (s : Span) → command_in (rest ++ (sign_at sign.Semicolon s ∷ [])) ≡ None
no_command [] s = refl
no_command (t ∷ []) s = no_word t.lexeme
no_command (t ∷ u ∷ []) s = refl
no_command (t ∷ u ∷ v ∷ vs) s = refl

-- there is one line
not_empty : (rest : List Placed) (t : Placed) → [] ≡ rest ++ (t ∷ []) → ⊥
not_empty [] t h = cc
not_empty (r ∷ rest) t h = cc

reads_same : {us vs : List Placed} {a b : FormTree} → Reads us a → Reads vs b → us ≡ vs → a ≡ b
reads_same reads_nothing reads_nothing h = refl
reads_same reads_nothing (reads_command {l = l} k) h = let e : command_in [] ≡ Some l = ap command_in h ∙ k in cc
reads_same reads_nothing (reads_closed rest s k) h = absurd (not_empty rest (sign_at sign.Semicolon s) h)
reads_same (reads_command {l = l} k) reads_nothing h = let e : command_in [] ≡ Some l = ap command_in (sym h) ∙ k in cc
reads_same (reads_command k) (reads_command j) h = let e = ap command_in h in cc
reads_same (reads_command {l = l} k) (reads_closed rest s j) h = let e : None ≡ Some l = sym (no_command rest s) ∙ ap command_in (sym h) ∙ k in cc
reads_same (reads_closed rest s k) reads_nothing h = absurd (not_empty rest (sign_at sign.Semicolon s) (sym h))
reads_same (reads_closed rest s k) (reads_command {l = l} j) h = let e : None ≡ Some l = sym (no_command rest s) ∙ ap command_in h ∙ j in cc
reads_same (reads_closed rest s k) (reads_closed other t j) h = let e = ap line_in (same_ends rest other (sign_at sign.Semicolon s) (sign_at sign.Semicolon t) h).fronts in cc

pub one_line : {us : List Placed} {a b : FormTree} → IsForm us a → IsForm us b → a ≡ b
one_line p q = reads_same (reads p) (reads q) refl

-- a line that is no command, with its last token
pub record Ends (rest : List Placed) (t : Placed) (l : FormTree) : Type 0 where
  pub ends : t.lexeme ≡ symbol sign.Semicolon
  pub reads : line_in rest ≡ Some l

ends_by : {us : List Placed} {l : FormTree} → Reads us l → (rest : List Placed) (t : Placed) → us ≡ rest ++ (t ∷ []) → command_in us ≡ None → Ends rest t l
ends_by reads_nothing rest t h n = absurd (not_empty rest t h)
ends_by (reads_command k) rest t h n = cc
ends_by (reads_closed other s k) rest t h n =
    let same = same_ends other rest (sign_at sign.Semicolon s) t h in
    record { ends = sym (ap (λ (x : Placed). x.lexeme) same.lasts); reads = ap line_in (sym same.fronts) ∙ k }

-- what is ensured of a line's tokens
pub record Answers (ts : List Placed) (r : Result Line ParseFault) : Type 0 where
  pub tree : IfOk r (λ form. IsForm ts (line_tree form))
  pub only : IfOk r (λ form. (other : FormTree) → IsForm ts other → other ≡ line_tree form)
  pub low : IfOk r (λ form. form_height (line_tree form) ≤ 100)
  pub syntax : IsErrOf r Syntax → (line : FormTree) → IsForm ts line → ⊥
  pub nested : IsErrOf r Nested → (line : FormTree) × IsForm ts line × (100 < form_height line)

answers_by : (ts rest : List Placed) (s : Span) → ts ≡ rest ++ (sign_at sign.Semicolon s ∷ []) → (r : Result Line ParseFault) (o : Option FormTree) → line_in rest ≡ o → GivesLine r o → Answers ts r
answers_by ts rest s h (Ok f) (Some l) k g =
    let e : line_tree f ≡ l = g.0 in
    let is : IsForm ts (line_tree f) = subst (λ (us : List Placed). IsForm us (line_tree f)) (sym h) (line_is rest s (line_tree f) (k ∙ ap (λ (x : FormTree). Some x) (sym e))) in
    record {
      tree = is;
      only = λ other p. one_line p is;
      low = rw e g.1;
      syntax = λ x. cc;
      nested = λ x. cc;
    }
answers_by ts rest s h (Ok f) None k g = absurd g
answers_by ts rest s h (Err Syntax) o k g = record {
  tree = tt;
  only = tt;
  low = tt;
  syntax = λ x line p. let e = (ends_by (reads p) rest (sign_at sign.Semicolon s) h (ap command_in h ∙ no_command rest s)).reads in cc;
  nested = λ x. cc;
}
answers_by ts rest s h (Err Nested) (Some l) k g = record {
  tree = tt;
  only = tt;
  low = tt;
  syntax = λ x. cc;
  nested = λ x. (l, subst (λ (us : List Placed). IsForm us l) (sym h) (line_is rest s l k), g);
}
answers_by ts rest s h (Err Nested) None k g = absurd g
answers_by ts rest s h (Err Memory) o k g = record { tree = tt; only = tt; low = tt; syntax = λ x. cc; nested = λ x. cc }

placed_ends : (ts rest : List Token) (t : Token) → ts ≡ rest ++ t ∷ [] → placed ts ≡ placed rest ++ placed_of t ∷ []
placed_ends ts rest t h = ap placed h ∙ map-append placed_of rest (t ∷ [])

pub empty_of : (ts : List Token) → length ts ≡ 0 → IsForm (placed ts) nothing
empty_of [] h = no_tokens
empty_of (t ∷ ts) h = absurd (omega arith)

-- the tokens before a last ; are this line, so all are
pub form_answers : (ts rest : List Token) (t : Token) → ts ≡ rest ++ t ∷ [] → lexeme_of t.kind ≡ symbol sign.Semicolon → (r : Result Line ParseFault) → GivesLine r (line_in (placed rest)) → Answers (placed ts) r
form_answers ts rest t h k r g =
    answers_by (placed ts) (placed rest) t.span (placed_ends ts rest t h ∙ ap (λ (x : Lexeme). placed rest ++ (record { lexeme = x; span = t.span }) ∷ []) k) r (line_in (placed rest)) refl g

-- tokens with no last ; are no line but a command
pub no_form : (ts rest : List Token) (t : Token) → ts ≡ rest ++ t ∷ [] → (lexeme_of t.kind ≡ symbol sign.Semicolon → ⊥) → None ≡ command_in (placed ts) → (l : FormTree) → IsForm (placed ts) l → ⊥
no_form ts rest t h n e l p = n (ends_by (reads p) (placed rest) (placed_of t) (placed_ends ts rest t h) (sym e)).ends

pub command_answers : (ts : List Placed) (f : Line) → Some (line_tree f) ≡ command_in ts → Answers ts (Ok f)
command_answers ts f h =
    let c = command_is ts (line_tree f) (sym h) in
    record { tree = c.0; only = λ other p. one_line p c.0; low = omega (arith, c.1); syntax = λ x. cc; nested = λ x. cc }

-- what is computed is the line
semicolon_is : (x : Lexeme) → is_semicolon x ≡ true → x ≡ symbol sign.Semicolon
semicolon_is (symbol sign.Semicolon) h = refl
semicolon_is _ h = cc

-- the tokens before a last ;
record ClosedOf (ts front : List Placed) : Type 0 where
  at : Span
  whole : front ++ sign_at sign.Semicolon at ∷ [] ≡ ts

last_closed : (t : Placed) (front : List Placed) (b : Bool) → is_semicolon t.lexeme ≡ b → cond b (Some []) None ≡ Some front → ClosedOf (t ∷ []) front
last_closed t front true e h =
    let k : [] ≡ front = cc in
    record { at = t.span; whole = ap (λ (us : List Placed). us ++ sign_at sign.Semicolon t.span ∷ []) (sym k) ∙ ap (λ (x : Lexeme). token_at x t.span ∷ []) (sym (semicolon_is t.lexeme e)) }
last_closed t front false e h = cc

closed_of : (ts front : List Placed) → closed_in ts ≡ Some front → ClosedOf ts front
closed_of [] front h = cc
closed_of (t ∷ []) front h = last_closed t front (is_semicolon t.lexeme) refl h
closed_of (t ∷ u ∷ ts) front h =
    let m = mapped (behind_token t) (closed_in (u ∷ ts)) front h in
    let c = closed_of (u ∷ ts) m.0 m.1 in
    record { at = c.at; whole = ap (λ (us : List Placed). us ++ sign_at sign.Semicolon c.at ∷ []) (sym m.2) ∙ ap (λ (us : List Placed). t ∷ us) c.whole }

closed_back : (front : List Placed) (s : Span) → closed_in (front ++ sign_at sign.Semicolon s ∷ []) ≡ Some front
closed_back [] s = refl
closed_back (t ∷ []) s = refl
closed_back (t ∷ u ∷ us) s = ap (option_map (behind_token t)) (closed_back (u ∷ us) s)

closed_line : (ts : List Placed) (l : FormTree) → option_and_then line_in (closed_in ts) ≡ Some l → IsForm ts l
closed_line ts l h = option_and_then_some line_in (closed_in ts) l h (λ front e k.
    let c = closed_of ts front e in
    subst (λ (us : List Placed). IsForm us l) c.whole (line_is front c.at l k))

form_as : (ts : List Placed) (l : FormTree) (o : Option FormTree) → command_in ts ≡ o → form_with o ts ≡ Some l → IsForm ts l
form_as ts l (Some k) e h = (command_is ts l (e ∙ h)).0
form_as [] l None e h = let k : nothing ≡ l = cc in subst (λ (x : FormTree). IsForm [] x) k no_tokens
form_as (t ∷ ts) l None e h = closed_line (t ∷ ts) l h

pub form_is : (ts : List Placed) (l : FormTree) → form_in ts ≡ Some l → IsForm ts l
form_is ts l h = form_as ts l (command_in ts) refl h

closed_form : (ts : List Placed) (l : FormTree) → 0 < length ts → command_in ts ≡ None → option_and_then line_in (closed_in ts) ≡ Some l → form_in ts ≡ Some l
closed_form [] l g e h = absurd (omega arith)
closed_form (t ∷ ts) l g e h = ap (λ (o : Option FormTree). form_with o (t ∷ ts)) e ∙ h

some_tokens : (front : List Placed) (t : Placed) → 0 < length (front ++ t ∷ [])
some_tokens [] t = omega arith
some_tokens (u ∷ us) t = omega arith

form_read : {ts : List Placed} {l : FormTree} → Reads ts l → form_in ts ≡ Some l
form_read reads_nothing = refl
form_read (reads_command {us = us} k) = ap (λ (o : Option FormTree). form_with o us) k
form_read (reads_closed {l = l} rest s k) =
    closed_form (rest ++ sign_at sign.Semicolon s ∷ []) l (some_tokens rest (sign_at sign.Semicolon s)) (no_command rest s) (ap (option_and_then line_in) (closed_back rest s) ∙ k)

pub form_of : (ts : List Placed) (l : FormTree) → IsForm ts l → form_in ts ≡ Some l
form_of ts l p = form_read (reads p)
