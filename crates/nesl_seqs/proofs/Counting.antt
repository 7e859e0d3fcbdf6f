-- How many binary digits a number has.
use Rattle.std.proofs.Common.{◌≡◌, ℕ, zero, suc, ◌+◌, ◌-◌, ◌^◌, ◌<◌, ◌≤◌, Bool, true, false, cond, nat_le, refl, arith}
use Rattle.std.proofs.Math.Nat.{pow-suc}
use Rattle.std.proofs.Math.Pow.{pow_mono}
use Rattle.std.proofs.lemmas.Bool.Decides.{nat_tests}
use Rattle.nesl_seqs_base.specs.Prices.{powers_within, digits}
use Rattle.nesl_seqs.specs.Laws.{NumberOfDigits}

below_power : (n : ℕ) → n < 2 ^ n
below_power zero = omega arith
below_power (suc n) = rw (pow-suc 2 n) (omega (arith, below_power n))

-- where p of the first k powers of two are at most n, these are the first p
abbrev pub First : ℕ → ℕ → ℕ → Type 0
First k n p = (p ≤ k) × (0 < p → 2 ^ (p - 1) ≤ n) × (p < k → n < 2 ^ p)

one_more : (k n p : ℕ) (b : Bool) → nat_le (2 ^ k) n ≡ b → First k n p → First (suc k) n (p + cond b 1 0)
one_more k n p true e h =
    let within : 2 ^ k ≤ n = grind (arith, nat_tests) in
    let all : p ≡ k = all_of_them within in
    let last : p + 1 - 1 ≡ k = omega (arith, all) in
    (omega (arith, all), λ q. rw last within, λ q. absurd (omega (arith, all, q)))
  where
    all_of_them : 2 ^ k ≤ n → p ≡ k
    all_of_them within = by_order (nat_le k p) refl
      where
        by_order : (b : Bool) → nat_le k p ≡ b → p ≡ k
        by_order true f =
            let least : k ≤ p = grind (arith, nat_tests) in
            omega (arith, least, h.0)
        by_order false f =
            let less : p < k = grind (arith, nat_tests) in
            let power : 2 ^ p ≤ 2 ^ k = pow_mono {i = p} {j = k} (omega (arith, less)) in
            absurd (omega (arith, h.2 less, power, within))
one_more k n p false e h =
    let above : n < 2 ^ k = grind (arith, nat_tests) in
    let same : p + 0 ≡ p = omega arith in
    rw same (omega (arith, h.0), h.1, λ q. by_order above (nat_le k p) refl)
  where
    by_order : n < 2 ^ k → (b : Bool) → nat_le k p ≡ b → n < 2 ^ p
    by_order above true f =
        let least : k ≤ p = grind (arith, nat_tests) in
        let all : p ≡ k = omega (arith, least, h.0) in
        rw all above
    by_order above false f = h.2 (grind (arith, nat_tests))

first_powers : (k n : ℕ) → First k n (powers_within k n)
first_powers zero n = (omega arith, λ q. absurd (omega (arith, q)), λ q. absurd (omega (arith, q)))
first_powers (suc k) n = one_more k n (powers_within k n) (nat_le (2 ^ k) n) refl (first_powers k n)

enough : (n p : ℕ) → 0 < n → First n n p → (0 < p) × (2 ^ (p - 1) ≤ n) × (n < 2 ^ p)
enough n zero some h = absurd (omega (arith, h.2 some, some))
enough n (suc p) some h = (omega arith, h.1 (omega arith), by_order (nat_le n (suc p)) refl)
  where
    by_order : (b : Bool) → nat_le n (suc p) ≡ b → n < 2 ^ (suc p)
    by_order true f =
        let least : n ≤ suc p = grind (arith, nat_tests) in
        let all : suc p ≡ n = omega (arith, least, h.0) in
        rw all (below_power n)
    by_order false f = h.2 (grind (arith, nat_tests))

pub number_of_digits : NumberOfDigits
unfolding digits
number_of_digits = (refl, λ n some. enough n (powers_within n n) some (first_powers n n))
