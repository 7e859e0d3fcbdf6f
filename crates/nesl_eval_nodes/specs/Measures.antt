-- What a meter says.
use Rattle.std.specs.Prelude.{ℕ}

-- the fuel that is left, and the depth so far
pub record Measure : Type 0 where
  pub fuel : ℕ
  pub depth : ℕ
