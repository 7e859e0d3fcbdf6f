-- The greatest number whose square is at most another.
use Rattle.std.proofs.Common.{◌≡◌, ℕ, zero, suc, ◌+◌, ◌*◌, ◌<◌, ◌≤◌, Bool, true, false, arith, ℤ, pos, refl, sym, ap, ◌∙◌}
use Rattle.std.specs.Int.{IsIsqrt}
use Rattle.std.specs.Prelude.{nat_le, if◌then◌else◌, unsigned_abs}
use Rattle.std.proofs.lemmas.Nat.{mul-le}
use Rattle.std.proofs.lemmas.Bool.Decides.{nat_tests}
use Rattle.nesl_scalars.specs.Integers.{root, IsRoot}

next_root : (n r : ℕ) (b : Bool) → nat_le ((r + 1) * (r + 1)) (suc n) ≡ b → IsRoot n r → IsRoot (suc n) (if b then r + 1 else r)
next_root n r true e p = (grind (arith, nat_tests), omega (arith, p.1))
next_root n r false e p = (omega (arith, p.0), grind (arith, nat_tests))

pub root_bounds : (n : ℕ) → IsRoot n (root n)
unfolding root
root_bounds zero = (omega arith, omega arith)
root_bounds (suc n) = next_root n (root n) (nat_le ((root n + 1) * (root n + 1)) (suc n)) refl (root_bounds n)

at_most : (n r s : ℕ) → r * r ≤ n → n < (s + 1) * (s + 1) → r ≤ s
at_most n r s low high = by_test (nat_le r s) refl
  where
    by_test : (b : Bool) → nat_le r s ≡ b → r ≤ s
    by_test true e = grind (arith, nat_tests)
    by_test false e = let above : s + 1 ≤ r = grind (arith, nat_tests) in absurd (omega (arith, low, high, mul-le (s + 1) (s + 1) r r above above))

pub root_is : (n r : ℕ) → IsRoot n r → root n ≡ r
root_is n r p = let bounds = root_bounds n in omega (arith, at_most n r (root n) p.0 bounds.1, at_most n (root n) r bounds.0 p.1)

pub isqrt_is : (z r : ℤ) → IsIsqrt z r → r ≡ pos (root (unsigned_abs z))
isqrt_is z r (n, same, low, high) = same ∙ ap pos (sym (root_is (unsigned_abs z) n (low, high)))
