-- Laws of the definition of tokens.
use Rattle.std.specs.Prelude.{◌≡◌, ℕ, List, length, All, ◌⊎◌}
use Rattle.nesl_lex.specs.Tokens.{Placed}
use Rattle.nesl_lex.specs.Lexemes.{Reads, HasTokens, HasNoTokenAt}
use Rattle.nesl_lex.specs.Places.{InOrder, StandsIn}
use Rattle.nesl_lex.specs.Reading.{reading_of}

-- a line has at most one list of tokens
abbrev pub OneList : Type 0
OneList = (line : List ℕ) (ts us : List Placed) → HasTokens line ts → HasTokens line us → us ≡ ts

-- a line is stuck at one place at most
abbrev pub OnePlace : Type 0
OnePlace = (line : List ℕ) (at other : ℕ) → HasNoTokenAt line at → HasNoTokenAt line other → other ≡ at

-- a line that has tokens is stuck nowhere
abbrev pub NotBoth : Type 0
NotBoth = (line : List ℕ) (ts : List Placed) (at : ℕ) → HasTokens line ts → HasNoTokenAt line at → ⊥

-- a line has tokens or is stuck somewhere
abbrev pub Either : Type 0
Either = (line : List ℕ) → ((ts : List Placed) × HasTokens line ts) ⊎ ((at : ℕ) × HasNoTokenAt line at)

-- a line's tokens lie within it, one after another
abbrev pub TokensInOrder : Type 0
TokensInOrder = (line : List ℕ) (ts : List Placed) → HasTokens line ts → InOrder 0 ts (length line)

-- and each is spelled by the bytes of its span
abbrev pub TokensStandIn : Type 0
TokensStandIn = (line : List ℕ) (ts : List Placed) → HasTokens line ts → All (StandsIn line) ts

-- what is computed of a line is its reading
abbrev pub ReadingComputes : Type 0
ReadingComputes = (line : List ℕ) → Reads 0 line (reading_of line).tokens (reading_of line).ending
