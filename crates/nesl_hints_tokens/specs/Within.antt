-- Where hints point.
use Rattle.std.specs.Prelude.{ℕ, ◌≤◌, IfSome}
use Rattle.nesl_lex.specs.declared.token.Span.{Span}
use Rattle.nesl_hints_tokens.specs.declared.hint.Hint.{Hint}

-- bytes of a text that has so many
pub record IsSpanWithin (len : ℕ) (s : Span) : Type 0 where
  pub ordered : s.start ≤ s.end
  pub inside : s.end ≤ len

-- a hint whose places are bytes of a text that has so many
pub record IsWithin (len : ℕ) (h : Hint) : Type 0 where
  pub place : IsSpanWithin len h.place
  pub second : IfSome h.second (IsSpanWithin len)
