-- Estimates for asking for helpers.
use Rattle.std.specs.Prelude.{ℕ, ◌*◌, ◌-◌, ◌/◌, ◌^◌, min, max}

-- the greatest number of microseconds
abbrev pub most : ℕ
most = 2 ^ 64 - 1

-- the microseconds for some elements, by the microseconds for 1024 of them
abbrev pub time_for : ℕ → ℕ → ℕ
time_for rate size = min (rate * size) most / 1024

-- the microseconds for 1024 elements, by the microseconds for some of them
abbrev pub rate_of : ℕ → ℕ → ℕ
rate_of micros size = min (micros * 1024) most / max size 1
