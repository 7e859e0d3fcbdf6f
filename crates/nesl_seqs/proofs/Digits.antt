-- Binary digits.
use Rattle.std.proofs.Common.{◌≡◌, ℕ, zero, suc, ◌+◌, ◌-◌, ◌*◌, ◌^◌, ◌<◌, ◌≤◌, cond, refl, ap, ◌∙◌, arith, nat_le}
use Rattle.std.proofs.Math.Pow.{pow_mono}
use Rattle.std.proofs.Math.Nat.{pow-suc}
use Rattle.std.proofs.lemmas.Bool.Decides.{nat_tests}
use Rattle.nesl_seqs_base.specs.Prices.{powers_within, digits}

below_power : (n : ℕ) → n < 2 ^ n
below_power zero = omega arith
below_power (suc n) = rw (pow-suc 2 n) (omega (arith, below_power n))

one_more : (p n m : ℕ) → p ≤ n → m + cond (nat_le p n) 1 0 ≡ suc m
one_more p n m h = grind (arith, nat_tests)

none_more : (p n m : ℕ) → n < p → m + cond (nat_le p n) 1 0 ≡ m
none_more p n m h = grind (arith, nat_tests)

-- all of the first powers are within
all_within : (k d n : ℕ) → k ≤ d + 1 → 2 ^ d ≤ n → powers_within k n ≡ k
all_within zero d n h p = refl
all_within (suc k) d n h p =
    let here : 2 ^ k ≤ n = omega (arith, pow_mono {i = k} {j = d} (omega arith)) in
    one_more (2 ^ k) n (powers_within k n) here ∙ ap suc (all_within k d n (omega arith) p)

-- none of the later ones is
no_more : (j d n : ℕ) → 2 ^ d ≤ n → n < 2 ^ (d + 1) → powers_within (j + (d + 1)) n ≡ d + 1
no_more zero d n p q = ap (λ k. powers_within k n) (omega arith) ∙ all_within (d + 1) d n (omega arith) p
no_more (suc j) d n p q =
    let far : 2 ^ (d + 1) ≤ 2 ^ (j + (d + 1)) = pow_mono {i = d + 1} {j = j + (d + 1)} (omega arith) in
    let next : suc j + (d + 1) ≡ suc (j + (d + 1)) = omega arith in
    ap (λ k. powers_within k n) next ∙ none_more (2 ^ (j + (d + 1))) n (powers_within (j + (d + 1)) n) (omega arith) ∙ no_more j d n p q

pub digits_is : (d n : ℕ) → 2 ^ d ≤ n → n < 2 * 2 ^ d → digits n ≡ d + 1
unfolding digits
digits_is d n p q =
    let double : 2 ^ (d + 1) ≡ 2 * 2 ^ d = ap (λ k. 2 ^ k) (omega arith) ∙ pow-suc 2 d ∙ omega arith in
    let enough : n ≡ (n - (d + 1)) + (d + 1) = omega (arith, below_power d) in
    ap (λ k. powers_within k n) enough ∙ no_more (n - (d + 1)) d n p (omega arith)

pub digits_none : digits 0 ≡ 0
unfolding digits
digits_none = refl
