-- Powers of two below 2^63.
use Rattle.std.proofs.Common.{rules, ◌≡◌, ℕ, ℤ, ◌*◌, ◌%◌, ◌^◌, ◌<◌, pos, ◌*ℤ◌, arith, FitsSigned, to_z, of_z, Option, ap, subst, ◌∙◌}
use Rattle.std.specs.Int.{w64}
use Rattle.std.specs.Option.{SomeIff}
use Rattle.std.proofs.lemmas.Int.{ints}
use Rattle.std.proofs.Math.Pow.{pow-lt}
use Rattle.std.proofs.lemmas.Nat.{one_shl}

pub shifted_is : (n : ℕ) → n < 63 → (1 * 2 ^ n) % 18446744073709551616 ≡ 2 ^ n
shifted_is n h = one_shl n 64 (omega arith)

pub shifted_fits : (n : ℕ) → n < 63 → FitsSigned w64 (pos ((1 * 2 ^ n) % 18446744073709551616))
shifted_fits n h = let below : 2 ^ n < 2 ^ 63 = pow-lt h in rw (shifted_is n h) (search rules)

power_read : (m n : ℕ) → m ≡ 2 ^ n → n < 63 → to_z w64 m ≡ pos (2 ^ n)
power_read m n e h = let below : 2 ^ n < 2 ^ 63 = pow-lt h in omega (arith, ints)

pub number_read : (a : ℤ) → FitsSigned w64 a → to_z w64 (of_z w64 a) ≡ a
number_read a f = omega (arith, ints)

pub product_read : (r : Option ℤ) (a : ℤ) (n : ℕ) → FitsSigned w64 a → n < 63
    → SomeIff r (FitsSigned w64 (to_z w64 (of_z w64 a) *ℤ to_z w64 ((1 * 2 ^ n) % 18446744073709551616))) (to_z w64 (of_z w64 a) *ℤ to_z w64 ((1 * 2 ^ n) % 18446744073709551616))
    → SomeIff r (FitsSigned w64 (a *ℤ pos (2 ^ n))) (a *ℤ pos (2 ^ n))
product_read r a n f h s =
    let same : to_z w64 (of_z w64 a) *ℤ to_z w64 ((1 * 2 ^ n) % 18446744073709551616) ≡ a *ℤ pos (2 ^ n) = ap (λ z. z *ℤ to_z w64 ((1 * 2 ^ n) % 18446744073709551616)) (number_read a f) ∙ ap (λ z. a *ℤ z) (power_read ((1 * 2 ^ n) % 18446744073709551616) n (shifted_is n h) h) in
    subst (λ z. SomeIff r (FitsSigned w64 z) z) same s
