-- What is at the front of some bytes.
use Rattle.std.specs.Prelude.{◌≡◌, ℕ, suc, Bool, false, ◌==◌, ◌&&◌, if◌then◌else◌, List, [], ◌∷◌, ◌++◌, length, Option}
use Rattle.std.specs.Prelude.{Some, None}
use Rattle.nesl_lex.specs.declared.token.Sign.{Sign}
use Rattle.nesl_lex.specs.declared.token.Sign.TheVariants as sign
use Rattle.nesl_lex.specs.declared.scan.Start.{Start}
use Rattle.nesl_lex.specs.declared.scan.Start.TheVariants as start
use Rattle.nesl_lex.specs.declared.scan.ByteClass.{ByteClass}
use Rattle.nesl_lex.specs.declared.scan.ByteClass.TheVariants as class
use Rattle.nesl_lex.specs.declared.scan.Piece.{Piece}
use Rattle.nesl_lex.specs.declared.scan.Piece.TheVariants.{Gap, Token, Nothing}
use Rattle.nesl_lex.specs.Tokens.{Lexeme, lexeme_of}
use Rattle.nesl_lex.specs.Lexemes.{AllBytes, is_blank, is_digit, is_letter, is_name_byte, is_comment_byte, is_text_byte}
use Rattle.nesl_lex.specs.Lexemes.{IsGap, HasNoToken, Spells, IsLongest}

-- what a first byte begins
abbrev pub start_of : ℕ → Start
start_of b =
    if is_blank b then start.Blank else (
    if b == 37 then start.Comment else (
    if is_digit b then start.Number else (
    if is_letter b then start.Name else (
    if b == 96 then start.Character else (
    if b == 34 then start.Text else start.Other)))))

abbrev pub test_of : ByteClass → ℕ → Bool
test_of class.Digit = is_digit
test_of class.NameByte = is_name_byte
test_of class.Comment = is_comment_byte
test_of class.Text = is_text_byte

-- how many bytes at the front pass
abbrev pub front_len : (ℕ → Bool) → List ℕ → ℕ
front_len p [] = 0
front_len p (b ∷ bs) = if p b then suc (front_len p bs) else 0

-- a gap, and a token, of this length at the front
pub record GapAt (bytes : List ℕ) (n : ℕ) : Type 0 where
  pub gap : List ℕ
  pub rest : List ℕ
  pub whole : bytes ≡ gap ++ rest
  pub long : length gap ≡ n
  pub is_gap : IsGap gap

pub record TextAt (bytes : List ℕ) (n : ℕ) (x : Lexeme) : Type 0 where
  pub text : List ℕ
  pub rest : List ℕ
  pub whole : bytes ≡ text ++ rest
  pub long : length text ≡ n
  pub spells : Spells text x
  pub longest : IsLongest text rest

-- what was found is at the front
abbrev pub PieceStands : List ℕ → Piece → Type 0
PieceStands bytes (Gap n) = GapAt bytes n
PieceStands bytes (Token n kind) = TextAt bytes n (lexeme_of kind)
PieceStands bytes Nothing = HasNoToken bytes

-- what ends a run
abbrev pub Stops : (ℕ → Bool) → List ℕ → Type 0
Stops p [] = Unit {0}
Stops p (b ∷ bs) = p b ≡ false

-- the longest run at the front
pub record Front (p : ℕ → Bool) (bytes : List ℕ) : Type 0 where
  pub front : List ℕ
  pub rest : List ℕ
  pub whole : bytes ≡ front ++ rest
  pub long : length front ≡ front_len p bytes
  pub each : AllBytes p front
  pub stops : Stops p rest

-- the sign of one byte
abbrev pub single : ℕ → Option Sign
single b =
    if b == 40 then Some sign.OpenParenthesis else (
    if b == 41 then Some sign.CloseParenthesis else (
    if b == 91 then Some sign.OpenBracket else (
    if b == 93 then Some sign.CloseBracket else (
    if b == 123 then Some sign.OpenBrace else (
    if b == 125 then Some sign.CloseBrace else (
    if b == 44 then Some sign.Comma else (
    if b == 59 then Some sign.Semicolon else (
    if b == 58 then Some sign.Colon else (
    if b == 124 then Some sign.Bar else (
    if b == 61 then Some sign.Equal else (
    if b == 60 then Some sign.Less else (
    if b == 62 then Some sign.Greater else (
    if b == 43 then Some sign.Plus else (
    if b == 45 then Some sign.Minus else (
    if b == 42 then Some sign.Star else (
    if b == 47 then Some sign.Slash else (
    if b == 35 then Some sign.Hash else None)))))))))))))))))

-- the sign of two bytes
abbrev pub double : ℕ → ℕ → Option Sign
double b c =
    if (b == 58) && (c == 58) then Some sign.DoubleColon else (
    if (b == 61) && (c == 61) then Some sign.DoubleEqual else (
    if (b == 47) && (c == 61) then Some sign.NotEqual else (
    if (b == 60) && (c == 61) then Some sign.LessOrEqual else (
    if (b == 62) && (c == 61) then Some sign.GreaterOrEqual else (
    if (b == 43) && (c == 43) then Some sign.DoublePlus else (
    if (b == 60) && (c == 45) then Some sign.LeftArrow else (
    if (b == 45) && (c == 62) then Some sign.RightArrow else None)))))))

-- the first that there is
abbrev pub first_of : Option Sign → Option Sign → Option Sign
first_of (Some s) other = Some s
first_of None other = other

-- the longest sign at the front
abbrev pub sign_in : List ℕ → Option Sign
sign_in [] = None
sign_in (b ∷ []) = single b
sign_in (b ∷ c ∷ bs) = first_of (double b c) (single b)
