-- Division by zero, and what is left of a division.
use Rattle.std.proofs.Common.{◌≡◌, ℤ, pos, false, FitsSigned, of_z, to_z, sym, arith}
use Rattle.std.specs.Int.{w64}
use Rattle.std.specs.Prelude.{int_rem}
use Rattle.std.proofs.lemmas.Int.{ints}
use Rattle.nesl_scalars.specs.Integers.{remainder}
use Rattle.nesl_scalars.specs.Scalars.{is_zero}
use Rattle.nesl_scalars.proofs.Powers.{number_read}

pub zero_is : (b : ℤ) → FitsSigned w64 b → of_z w64 b ≡ 0 → b ≡ pos 0
zero_is b f h = omega (arith, ints)

pub nonzero_is : (b : ℤ) → FitsSigned w64 b → (of_z w64 b ≡ 0 → ⊥) → is_zero b ≡ false
nonzero_is b f h = search (arith, ints)

remainder_is : (a b : ℤ) → int_rem a b ≡ remainder a b
remainder_is a b = search (arith, ints)

pub remainder_read : (a b r : ℤ) → FitsSigned w64 a → FitsSigned w64 b → FitsSigned w64 r
    → r ≡ int_rem (to_z w64 (of_z w64 a)) (to_z w64 (of_z w64 b)) → remainder a b ≡ to_z w64 (of_z w64 r)
remainder_read a b r f g h e = rw (number_read r h, e, number_read a f, number_read b g) (sym (remainder_is a b))
