-- Whole numbers, as the functions on numbers speak of them.
use Rattle.std.specs.Prelude.{ℕ, zero, suc, ◌+◌, ◌*◌, ◌/◌, ◌^◌, ℤ, pos, negsuc, ◌-ℤ◌, ◌*ℤ◌, Bool, ◌≤◌, ◌<◌}
use Rattle.std.specs.Prelude.{nat_lt, nat_le, int_div, if◌then◌else◌}

-- from -2^63 to 2^63 - 1
abbrev pub fits : ℤ → Bool
fits (pos n) = nat_lt n (2 ^ 63)
fits (negsuc n) = nat_lt n (2 ^ 63)

-- the quotient by k, rounded down
abbrev pub quotient_down : ℤ → ℕ → ℤ
quotient_down (pos n) k = pos (n / k)
quotient_down (negsuc n) k = negsuc (n / k)

-- what is left of a when b is taken from it as often as their quotient, rounded towards zero, says
abbrev pub remainder : ℤ → ℤ → ℤ
remainder a b = a -ℤ b *ℤ int_div a b

-- r is the greatest number whose square is at most n
abbrev pub IsRoot : ℕ → ℕ → Type 0
IsRoot n r = (r * r ≤ n) × (n < (r + 1) * (r + 1))

-- the greatest number whose square is at most n: that of the number before, or one more
unfoldable pub root : ℕ → ℕ
root zero = 0
root (suc n) = if nat_le ((root n + 1) * (root n + 1)) (suc n) then root n + 1 else root n
