-- Which tokens a line has: a relation between bytes and tokens with spans.
-- The words, the signs and the form of numbers, characters and texts are this profile's of NESL.
use Rattle.std.specs.Prelude.{◌≡◌, ◌≢◌, ℕ, ◌+◌, ◌-◌, ◌*◌, ◌^◌, ◌<◌, ◌≤◌, Bool, true, false, ◌&&◌, ◌||◌, ◌==◌, nat_le}
use Rattle.std.specs.Prelude.{if◌then◌else◌, List, [], ◌∷◌, ◌++◌, length, map, ◌⊎◌, codes}
use Rattle.nesl_lex.specs.declared.token.Word.{Word}
use Rattle.nesl_lex.specs.declared.token.Word.TheVariants as word
use Rattle.nesl_lex.specs.declared.token.Sign.{Sign}
use Rattle.nesl_lex.specs.declared.token.Sign.TheVariants as sign
use Rattle.nesl_lex.specs.Tokens.{Lexeme, number, name, reserved, truth, character, quoted, symbol, Placed}

-- a space, a tab or a carriage return
abbrev pub is_blank : ℕ → Bool
is_blank b = (b == 32) || (b == 9) || (b == 13)

abbrev pub is_digit : ℕ → Bool
is_digit b = nat_le 48 b && nat_le b 57

abbrev pub is_capital : ℕ → Bool
is_capital b = nat_le 65 b && nat_le b 90

abbrev pub is_letter : ℕ → Bool
is_letter b = is_capital b || (nat_le 97 b && nat_le b 122)

-- a letter, a digit or _
abbrev pub is_name_byte : ℕ → Bool
is_name_byte b = is_letter b || is_digit b || (b == 95)

-- what a character or a text may have
abbrev pub is_printable : ℕ → Bool
is_printable b = nat_le 32 b && nat_le b 126

-- anything but %
abbrev pub is_comment_byte : ℕ → Bool
is_comment_byte b = if b == 37 then false else true

-- anything printable but "
abbrev pub is_text_byte : ℕ → Bool
is_text_byte b = if b == 34 then false else is_printable b

-- the byte as a small letter, where it is a capital
abbrev pub small_letter : ℕ → ℕ
small_letter b = if is_capital b then b + 32 else b

-- each byte passes the test
abbrev pub AllBytes : (ℕ → Bool) → List ℕ → Type 0
AllBytes p [] = Unit {0}
AllBytes p (b ∷ bs) = (p b ≡ true) × AllBytes p bs

-- the number that digits after a value make
abbrev pub with_digits : ℕ → List ℕ → ℕ
with_digits n [] = n
with_digits n (d ∷ ds) = with_digits (n * 10 + (d - 48)) ds

abbrev pub word_text : Word → List ℕ
word_text word.Function = codes "function"
word_text word.Datatype = codes "datatype"
word_text word.Let = codes "let"
word_text word.In = codes "in"
word_text word.If = codes "if"
word_text word.Then = codes "then"
word_text word.Else = codes "else"
word_text word.Or = codes "or"
word_text word.Nor = codes "nor"
word_text word.Xor = codes "xor"
word_text word.And = codes "and"
word_text word.Nand = codes "nand"
word_text word.Int = codes "int"
word_text word.Bool = codes "bool"
word_text word.Char = codes "char"

abbrev pub sign_text : Sign → List ℕ
sign_text sign.OpenParenthesis = codes "("
sign_text sign.CloseParenthesis = codes ")"
sign_text sign.OpenBracket = codes "["
sign_text sign.CloseBracket = codes "]"
sign_text sign.OpenBrace = codes "{"
sign_text sign.CloseBrace = codes "}"
sign_text sign.Comma = codes ","
sign_text sign.Semicolon = codes ";"
sign_text sign.Colon = codes ":"
sign_text sign.DoubleColon = codes "::"
sign_text sign.Bar = codes "|"
sign_text sign.Equal = codes "="
sign_text sign.DoubleEqual = codes "=="
sign_text sign.NotEqual = codes "/="
sign_text sign.Less = codes "<"
sign_text sign.Greater = codes ">"
sign_text sign.LessOrEqual = codes "<="
sign_text sign.GreaterOrEqual = codes ">="
sign_text sign.Plus = codes "+"
sign_text sign.DoublePlus = codes "++"
sign_text sign.Minus = codes "-"
sign_text sign.LeftArrow = codes "<-"
sign_text sign.RightArrow = codes "->"
sign_text sign.Star = codes "*"
sign_text sign.Slash = codes "/"
sign_text sign.Hash = codes "#"

-- the names of the two truth values
abbrev pub IsTruthText : List ℕ → Bool → Type 0
IsTruthText text true = (text ≡ codes "t") ⊎ (text ≡ codes "true")
IsTruthText text false = (text ≡ codes "f") ⊎ (text ≡ codes "false")

-- digits, one or more
abbrev pub IsDigits : List ℕ → Type 0
IsDigits [] = ⊥
IsDigits (b ∷ bs) = (is_digit b ≡ true) × AllBytes is_digit bs

-- a letter, then letters, digits and _
abbrev pub IsNameText : List ℕ → Type 0
IsNameText [] = ⊥
IsNameText (b ∷ bs) = (is_letter b ≡ true) × AllBytes is_name_byte bs

-- what a text of a name's form is, in small letters: a reserved word, a truth value, or else a name
abbrev pub SpellsName : List ℕ → Lexeme → Type 0
SpellsName small (name bytes) =
    (bytes ≡ small) × ((w : Word) → small ≢ word_text w) × ((value : Bool) → IsTruthText small value → ⊥)
SpellsName small (reserved w) = small ≡ word_text w
SpellsName small (truth value) = IsTruthText small value
SpellsName small _ = ⊥

-- what the text is as a token
abbrev pub Spells : List ℕ → Lexeme → Type 0
Spells text (number n) = IsDigits text × (n ≡ with_digits 0 text) × (n < 2 ^ 63)
Spells text (character c) = (text ≡ 96 ∷ c ∷ []) × (is_printable c ≡ true)
Spells text (quoted inside) = (text ≡ 34 ∷ (inside ++ 34 ∷ [])) × AllBytes is_text_byte inside
Spells text (symbol s) = text ≡ sign_text s
Spells text x = IsNameText text × SpellsName (map small_letter text) x

-- a token's text, also where it is a number that is too large
abbrev pub IsTokenText : List ℕ → Type 0
IsTokenText text = IsDigits text ⊎ ((x : Lexeme) × Spells text x)

-- no longer front of these bytes has a token's shape
abbrev pub IsLongest : List ℕ → List ℕ → Type 0
IsLongest text rest =
    (front back : List ℕ) → text ++ rest ≡ front ++ back → IsTokenText front → length front ≤ length text

-- a blank, or a comment from % to the next %
abbrev pub IsGap : List ℕ → Type 0
IsGap [] = ⊥
IsGap (b ∷ bs) =
    ((is_blank b ≡ true) × (bs ≡ []))
    ⊎ ((b ≡ 37) × (inside : List ℕ) × (bs ≡ inside ++ 37 ∷ []) × AllBytes is_comment_byte inside)

-- no token, blank or whole comment is at the front of these bytes, and there is a byte
pub record HasNoToken (bytes : List ℕ) : Type 0 where
  pub byte : bytes ≢ []
  pub no_gap : (gap rest : List ℕ) → bytes ≡ gap ++ rest → IsGap gap → ⊥
  pub no_token : (text rest : List ℕ) (x : Lexeme)
      → bytes ≡ text ++ rest → Spells text x → IsLongest text rest → ⊥

-- how a reading ends: at the end of the bytes, or at a place where no token is
pub data Ending : Type 0 where
  whole : Ending
  halted_at : ℕ → Ending

-- a token that begins at this place and has this length
abbrev pub token_from : Lexeme → ℕ → ℕ → Placed
token_from x at n = record { lexeme = x; span = record { start = at; end = at + n } }

-- from this place on these bytes are read as these tokens, up to this ending
pub data Reads : ℕ → List ℕ → List Placed → Ending → Type 0 where
  finished : {at : ℕ} → Reads at [] [] whole
  halted : {at : ℕ} {bytes : List ℕ} → HasNoToken bytes → Reads at bytes [] (halted_at at)
  passed : {at : ℕ} {bytes : List ℕ} {ts : List Placed} {e : Ending} (gap rest : List ℕ)
      → bytes ≡ gap ++ rest → IsGap gap
      → Reads (at + length gap) rest ts e
      → Reads at bytes ts e
  took : {at : ℕ} {bytes : List ℕ} {ts : List Placed} {e : Ending} (text rest : List ℕ) (x : Lexeme)
      → bytes ≡ text ++ rest → Spells text x → IsLongest text rest
      → Reads (at + length text) rest ts e
      → Reads at bytes (token_from x at (length text) ∷ ts) e

-- the tokens of a line
abbrev pub HasTokens : List ℕ → List Placed → Type 0
HasTokens line ts = Reads 0 line ts whole

-- the first byte at which no token, blank or whole comment is
abbrev pub HasNoTokenAt : List ℕ → ℕ → Type 0
HasNoTokenAt line at = (ts : List Placed) × Reads 0 line ts (halted_at at)
