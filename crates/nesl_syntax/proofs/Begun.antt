-- A line by its first token.
use Rattle.std.proofs.Common.{◌≡◌, ℕ, ◌-◌, ◌≤◌, length, take, drop, get_or, List, [], ◌∷◌, Result, refl, ap, sym, ◌∙◌, arith}
use Rattle.std.specs.Option.{option_map}
use Rattle.std.proofs.lemmas.List.{take_rest}
use Rattle.nesl_lex.specs.Tokens.{Placed, Lexeme, reserved, symbol, placed, lexeme_of}
use Rattle.nesl_lex.specs.declared.token.Kind.{Kind}
use Rattle.nesl_lex.specs.declared.token.Name.{Name}
use Rattle.nesl_lex.specs.declared.token.Kind.TheVariants as kind
use Rattle.nesl_lex.specs.declared.token.Sign.{Sign}
use Rattle.nesl_lex.specs.declared.token.Sign.TheVariants as sign
use Rattle.nesl_lex.specs.declared.token.Token.{Token}
use Rattle.nesl_lex.specs.declared.token.Word.{Word}
use Rattle.nesl_lex.specs.declared.token.Word.TheVariants as word
use Rattle.nesl_syntax.specs.declared.line.Line.{Line}
use Rattle.nesl_syntax_tree.specs.Trees.{evaluate}
use Rattle.nesl_syntax_open.specs.declared.fault.ParseFault.{ParseFault}
use Rattle.nesl_syntax_open.specs.Machine.{expression}
use Rattle.nesl_syntax.specs.Reading.{begun_line, line_in}
use Rattle.nesl_syntax.specs.Given.{GivesLine}

-- a line's first token, and those after it
pub line_from : (ts : List Token) (t : Token) (k : Kind) → 1 ≤ length ts → t ≡ get_or ts 0 t → t.kind ≡ k → line_in (placed ts) ≡ begun_line (lexeme_of k) (placed ts) (placed (take (length ts - 1) (drop 1 ts)))
line_from [] t k h e j = absurd (omega arith)
line_from (u ∷ us) t k h e j =
    let i : lexeme_of u.kind ≡ lexeme_of k = ap (λ (x : Token). lexeme_of x.kind) (sym e) ∙ ap lexeme_of j in
    let f : placed us ≡ placed (take (length (u ∷ us) - 1) (drop 1 (u ∷ us))) = sym (ap placed (take_rest (u ∷ us) 1)) in
    ap (λ (x : Lexeme). begun_line x (placed (u ∷ us)) (placed us)) i ∙ ap (begun_line (lexeme_of k) (placed (u ∷ us))) f

-- an expression's line
plain_word : (w : Word) (all ts : List Placed) → (w ≡ word.Function → ⊥) → (w ≡ word.Datatype → ⊥) → begun_line (reserved w) all ts ≡ option_map evaluate (expression all)
plain_word word.Function all ts f d = absurd (f refl)
plain_word word.Datatype all ts f d = absurd (d refl)
plain_word _ all ts f d = refl

plain_sign : (s : Sign) (all ts : List Placed) → (s ≡ sign.Colon → ⊥) → begun_line (symbol s) all ts ≡ option_map evaluate (expression all)
plain_sign sign.Colon all ts f = absurd (f refl)
plain_sign _ all ts f = refl

plain_kind : (k : Kind) (all ts : List Placed) → ((x : Name) → k ≡ kind.Name x → ⊥) → ((w : Word) → k ≡ kind.Reserved w → ⊥) → ((s : Sign) → k ≡ kind.Symbol s → ⊥) → begun_line (lexeme_of k) all ts ≡ option_map evaluate (expression all)
plain_kind (kind.Name x) all ts f g h = absurd (f x refl)
plain_kind (kind.Reserved w) all ts f g h = absurd (g w refl)
plain_kind (kind.Symbol s) all ts f g h = absurd (h s refl)
plain_kind _ all ts f g h = refl

-- a line that is begun as this kind of token begins it
pub begun_by : (r : Result Line ParseFault) (ts : List Token) (t : Token) (k : Kind) → 1 ≤ length ts → t ≡ get_or ts 0 t → t.kind ≡ k → GivesLine r (begun_line (lexeme_of k) (placed ts) (placed (take (length ts - 1) (drop 1 ts)))) → GivesLine r (line_in (placed ts))
begun_by r ts t k h e j g = rw (line_from ts t k h e j) g

pub word_line : (r : Result Line ParseFault) (ts : List Token) (t : Token) (w : Word) → 1 ≤ length ts → t ≡ get_or ts 0 t → t.kind ≡ kind.Reserved w → (w ≡ word.Function → ⊥) → (w ≡ word.Datatype → ⊥) → GivesLine r (option_map evaluate (expression (placed ts))) → GivesLine r (line_in (placed ts))
word_line r ts t w h e j f d g = rw (line_from ts t (kind.Reserved w) h e j ∙ plain_word w (placed ts) _ f d) g

pub sign_line : (r : Result Line ParseFault) (ts : List Token) (t : Token) (s : Sign) → 1 ≤ length ts → t ≡ get_or ts 0 t → t.kind ≡ kind.Symbol s → (s ≡ sign.Colon → ⊥) → GivesLine r (option_map evaluate (expression (placed ts))) → GivesLine r (line_in (placed ts))
sign_line r ts t s h e j f g = rw (line_from ts t (kind.Symbol s) h e j ∙ plain_sign s (placed ts) _ f) g

pub kind_line : (r : Result Line ParseFault) (ts : List Token) (t : Token) → 1 ≤ length ts → t ≡ get_or ts 0 t → ((x : Name) → t.kind ≡ kind.Name x → ⊥) → ((w : Word) → t.kind ≡ kind.Reserved w → ⊥) → ((s : Sign) → t.kind ≡ kind.Symbol s → ⊥) → GivesLine r (option_map evaluate (expression (placed ts))) → GivesLine r (line_in (placed ts))
kind_line r ts t h e i j k g = rw (line_from ts t t.kind h e refl ∙ plain_kind t.kind (placed ts) _ i j k) g
