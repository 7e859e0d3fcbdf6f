-- Tokens without where they lie in memory.
use Rattle.std.specs.Prelude.{ℕ, Bool, List, map}
use Rattle.nesl_lex.specs.declared.token.Span.{Span}
use Rattle.nesl_lex.specs.declared.token.Word.{Word}
use Rattle.nesl_lex.specs.declared.token.Sign.{Sign}
use Rattle.nesl_lex.specs.declared.token.Kind.{Kind}
use Rattle.nesl_lex.specs.declared.token.Kind.TheVariants.{Number, Name, Reserved, Truth, Character, Text, Symbol}
use Rattle.nesl_lex.specs.declared.token.Token.{Token}

-- what a token is: a number's value, a name in small letters, a reserved word, a truth value, a character's code,
-- the bytes of a text, or a sign
pub data Lexeme : Type 0 where
  number : ℕ → Lexeme
  name : List ℕ → Lexeme
  reserved : Word → Lexeme
  truth : Bool → Lexeme
  character : ℕ → Lexeme
  quoted : List ℕ → Lexeme
  symbol : Sign → Lexeme

-- a token and where it is
pub record Placed : Type 0 where
  pub lexeme : Lexeme
  pub span : Span

abbrev pub lexeme_of : Kind → Lexeme
lexeme_of (Number n) = number n
lexeme_of (Name x) = name x.letters.items
lexeme_of (Reserved w) = reserved w
lexeme_of (Truth value) = truth value
lexeme_of (Character c) = character c
lexeme_of (Text bytes) = quoted bytes.items
lexeme_of (Symbol s) = symbol s

abbrev pub placed_of : Token → Placed
placed_of t = record { lexeme = lexeme_of t.kind; span = t.span }

abbrev pub placed : List Token → List Placed
placed ts = map placed_of ts
