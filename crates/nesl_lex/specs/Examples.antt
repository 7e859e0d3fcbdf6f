-- Worked lines.
use Rattle.std.specs.Prelude.{ℕ, true, false, [], ◌∷◌, codes}
use Rattle.nesl_lex.specs.declared.token.Word.TheVariants as word
use Rattle.nesl_lex.specs.declared.token.Sign.TheVariants as sign
use Rattle.nesl_lex.specs.Tokens.{Lexeme, number, name, reserved, truth, character, quoted, symbol, Placed}
use Rattle.nesl_lex.specs.Lexemes.{HasTokens, HasNoTokenAt}

-- a token from start on and before end
abbrev token : ℕ → ℕ → Lexeme → Placed
token start end x = record { lexeme = x; span = record { start = start; end = end } }

abbrev pub Arrow : Type 0
Arrow = HasTokens (codes "1<-2")
    (token 0 1 (number 1) ∷ token 1 3 (symbol sign.LeftArrow) ∷ token 3 4 (number 2) ∷ [])

abbrev pub ArrowAndMinus : Type 0
ArrowAndMinus = HasTokens (codes "1<--2")
    (token 0 1 (number 1) ∷ token 1 3 (symbol sign.LeftArrow)
    ∷ token 3 4 (symbol sign.Minus) ∷ token 4 5 (number 2) ∷ [])

-- there is no sign --
abbrev pub TwoMinuses : Type 0
TwoMinuses = HasTokens (codes "a--b")
    (token 0 1 (name (codes "a")) ∷ token 1 2 (symbol sign.Minus) ∷ token 2 3 (symbol sign.Minus)
    ∷ token 3 4 (name (codes "b")) ∷ [])

abbrev pub ThreeColons : Type 0
ThreeColons = HasTokens (codes ":::") (token 0 2 (symbol sign.DoubleColon) ∷ token 2 3 (symbol sign.Colon) ∷ [])

abbrev pub TwoComments : Type 0
TwoComments = HasTokens (codes "%a%%b%") []

-- a comment doesn't begin in a text: 34 is a quote
abbrev pub PercentInText : Type 0
PercentInText = HasTokens (34 ∷ 97 ∷ 37 ∷ 98 ∷ 34 ∷ []) (token 0 5 (quoted (codes "a%b")) ∷ [])

abbrev pub OpenText : Type 0
OpenText = HasNoTokenAt (120 ∷ 32 ∷ 34 ∷ 97 ∷ []) 2

abbrev pub OpenComment : Type 0
OpenComment = HasNoTokenAt (codes "x %a") 2

abbrev pub BlankCharacter : Type 0
BlankCharacter = HasTokens (codes "` x") (token 0 2 (character 32) ∷ token 2 3 (name (codes "x")) ∷ [])

abbrev pub LoneBackquote : Type 0
LoneBackquote = HasNoTokenAt (codes "x`") 1

abbrev pub BackquoteAndDelete : Type 0
BackquoteAndDelete = HasNoTokenAt (96 ∷ 127 ∷ []) 0

abbrev pub GreatestNumber : Type 0
GreatestNumber = HasTokens (codes "9223372036854775807") (token 0 19 (number 9223372036854775807) ∷ [])

-- no shorter front of the digits is taken
abbrev pub TooLargeNumber : Type 0
TooLargeNumber = HasNoTokenAt (codes " 9223372036854775808") 1

abbrev pub LeadingZeros : Type 0
LeadingZeros = HasTokens (codes "00000000000000000000009") (token 0 23 (number 9) ∷ [])

abbrev pub TruthAndName : Type 0
TruthAndName = HasTokens (codes "T tt") (token 0 1 (truth true) ∷ token 2 4 (name (codes "tt")) ∷ [])

abbrev pub FoldedWords : Type 0
FoldedWords = HasTokens (codes "iF False X_1")
    (token 0 2 (reserved word.If) ∷ token 3 8 (truth false) ∷ token 9 12 (name (codes "x_1")) ∷ [])

abbrev pub NumberAndName : Type 0
NumberAndName = HasTokens (codes "1in2") (token 0 1 (number 1) ∷ token 1 4 (name (codes "in2")) ∷ [])

abbrev pub ZeroByte : Type 0
ZeroByte = HasNoTokenAt (97 ∷ 0 ∷ []) 1

abbrev pub LargeByte : Type 0
LargeByte = HasNoTokenAt (32 ∷ 200 ∷ []) 1
