-- The first of some spans.
use Rattle.std.specs.Prelude.{List, [], ◌∷◌, Option, Some, None}
use Rattle.nesl_lex.specs.declared.token.Span.{Span}

abbrev pub first : List Span → Option Span
first [] = None
first (s ∷ ss) = Some s

-- what was found before, else what comes now
abbrev pub earlier : Option Span → Option Span → Option Span
earlier None o = o
earlier (Some s) o = Some s
