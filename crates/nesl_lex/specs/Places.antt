-- Where the tokens of a line are.
use Rattle.std.specs.Prelude.{ℕ, ◌≤◌, ◌<◌, List, [], ◌∷◌, slice_range}
use Rattle.nesl_lex.specs.Tokens.{Placed}
use Rattle.nesl_lex.specs.Lexemes.{Spells}

-- tokens between these places, one after another, each with a byte at least
pub data InOrder : ℕ → List Placed → ℕ → Type 0 where
  none_left : {i j : ℕ} → i ≤ j → InOrder i [] j
  more_left : {i j : ℕ} {t : Placed} {ts : List Placed} → i ≤ t.span.start → t.span.start < t.span.end
      → InOrder t.span.end ts j → InOrder i (t ∷ ts) j

-- the bytes of the line in the token's span are the token's text
abbrev pub StandsIn : List ℕ → Placed → Type 0
StandsIn line t = Spells (slice_range line t.span.start t.span.end) t.lexeme
