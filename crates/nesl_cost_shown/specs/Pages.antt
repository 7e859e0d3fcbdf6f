-- Texts that a screen shows as they are.
use Rattle.std.specs.Prelude.{ℕ, ◌≤◌}

-- a byte that ASCII prints: no line end, and nothing that a terminal would obey
abbrev pub IsPrintable : ℕ → Type 0
IsPrintable b = (32 ≤ b) × (b ≤ 126)
