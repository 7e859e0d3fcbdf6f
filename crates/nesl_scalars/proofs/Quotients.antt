-- Quotients that are rounded down.
use Rattle.std.proofs.Common.{ℕ, zero, suc, ◌+◌, ◌*◌, ◌/◌, ◌<◌, ◌≤◌, ℤ, pos, negsuc, ◌+ℤ◌, ◌*ℤ◌, ◌≤ℤ◌, ◌<ℤ◌, arith}
use Rattle.std.proofs.lemmas.Int.{ints}
use Rattle.std.proofs.lemmas.Nat.{div-add-mod'}
use Rattle.nesl_scalars.specs.Integers.{quotient_down}

below : (q n k : ℕ) → q * k ≤ n → n < (q + 1) * k → ((negsuc q *ℤ pos k) ≤ℤ negsuc n) × (negsuc n <ℤ ((negsuc q +ℤ pos 1) *ℤ pos k))
below zero n k low high = search (arith, ints)
below (suc q) n zero low high = search (arith, ints)
below (suc q) n (suc k) low high = search (arith, ints)

pub quotient_rounded : (a : ℤ) (k : ℕ) → 0 < k → ((quotient_down a k *ℤ pos k) ≤ℤ a) × (a <ℤ ((quotient_down a k +ℤ pos 1) *ℤ pos k))
quotient_rounded (pos n) k h = search (arith, ints)
quotient_rounded (negsuc n) k h = below (n / k) n k (omega (arith, div-add-mod' n k)) (omega (arith, div-add-mod' n k))
