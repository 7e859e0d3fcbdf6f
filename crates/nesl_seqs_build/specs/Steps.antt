-- Progressions that are numbers of 64 bits.
use Rattle.std.specs.Prelude.{ℕ, ◌*◌, ◌<◌, ◌^◌, pos, ◌+ℤ◌, ◌<ℤ◌}
use Rattle.nesl_seqs_build.specs.declared.ranges.Progression.{Progression}

-- no number of it is too large
abbrev pub IsInRange : Progression → Type 0
IsInRange p = (j : ℕ) → j < p.count → (p.first +ℤ pos (j * p.step)) <ℤ pos (2 ^ 63)
