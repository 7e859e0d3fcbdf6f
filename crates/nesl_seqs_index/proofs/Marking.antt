-- Bits that mark the places of a window.
use Rattle.std.proofs.Common.{◌≡◌, ◌≢◌, ℕ, zero, suc, ◌*◌, ◌/◌, ◌%◌, ◌^◌, ◌<◌, Bool, true, false, not, ◌||◌, nat_eq, List, length, replicate, get_or, set, refl, ap, sym, ◌∙◌, arith, w64, bit_or}
use Rattle.std.specs.Int.{bit_at}
use Rattle.std.proofs.lemmas.Bool.{false≢true}
use Rattle.std.proofs.lemmas.Bool.Decides.{Decides-eqb, nat_tests}
use Rattle.std.proofs.lemmas.List.{get_or-set_same, get_or-set_other}
use Rattle.std.proofs.lemmas.Nat.Bits.{bit_at-zero, bit_at_set_same, bit_at_set_other}

zero_at : (n j : ℕ) → get_or (replicate n zero) j zero ≡ zero
zero_at zero j = refl
zero_at (suc n) zero = refl
zero_at (suc n) (suc j) = zero_at n j

pub none_marked : (n j i : ℕ) → nat_eq (bit_at (get_or (replicate n zero) j zero) i) 1 ≡ false
none_marked n j i = ap (λ w. nat_eq w 1) (ap (λ w. bit_at w i) (zero_at n j) ∙ bit_at-zero i)

pub are_equal : (a b : ℕ) → nat_eq a b ≡ true → a ≡ b
are_equal a b h = (Decides-eqb a b).0 h

pub are_apart : (a b : ℕ) → nat_eq a b ≡ false → a ≢ b
are_apart a b h e = false≢true (sym h ∙ (Decides-eqb a b).1 e)

pub test_apart : (a b : ℕ) → a ≢ b → nat_eq a b ≡ false
test_apart a b h = grind (arith, nat_tests)

or_true : (b c : Bool) → c ≡ true → (b || c) ≡ true
or_true true c h = refl
or_true false c h = h

pub or_false : (b c : Bool) → c ≡ false → (b || c) ≡ b
or_false true c h = refl
or_false false c h = h

-- the bit of a place
abbrev bit_of : List ℕ → ℕ → Bool
bit_of ws q = nat_eq (bit_at (get_or ws (q / 64) 0) (q % 64)) 1

abbrev pub with_bit : List ℕ → ℕ → List ℕ
with_bit ws p = set ws (p / 64) (bit_or (get_or ws (p / 64) 0) (1 * 2 ^ (p % 64) % 18446744073709551616))

pub one_marked : (ws : List ℕ) (p q : ℕ) → p / 64 < length ws → bit_of (with_bit ws p) q ≡ (bit_of ws q || nat_eq p q)
one_marked ws p q h = by_word (nat_eq (q / 64) (p / 64)) refl
  where
    n : ℕ
    n = get_or ws (p / 64) 0

    new : ℕ
    new = bit_or n (1 * 2 ^ (p % 64) % 18446744073709551616)

    by_bit : q / 64 ≡ p / 64 → (b : Bool) → nat_eq (q % 64) (p % 64) ≡ b → bit_of (with_bit ws p) q ≡ (bit_of ws q || nat_eq p q)
    by_bit word true e =
        let bit : q % 64 ≡ p % 64 = are_equal (q % 64) (p % 64) e in
        let same : nat_eq p q ≡ true = (Decides-eqb p q).1 (omega arith) in
        let set_bit : bit_at (get_or (with_bit ws p) (q / 64) 0) (q % 64) ≡ 1 =
        ap (λ i. bit_at (get_or (with_bit ws p) i 0) (q % 64)) word ∙ ap (λ w. bit_at w (q % 64)) (get_or-set_same ws (p / 64) new 0 h) ∙ ap (bit_at new) bit ∙ bit_at_set_same w64 n (p % 64) (omega arith) in
        ap (λ w. nat_eq w 1) set_bit ∙ sym (or_true (bit_of ws q) (nat_eq p q) same)
    by_bit word false e =
        let bit : q % 64 ≢ p % 64 = are_apart (q % 64) (p % 64) e in
        let apart : nat_eq p q ≡ false = test_apart p q (λ s. bit (omega (arith, s))) in
        let kept : bit_at (get_or (with_bit ws p) (q / 64) 0) (q % 64) ≡ bit_at (get_or ws (q / 64) 0) (q % 64) =
        ap (λ i. bit_at (get_or (with_bit ws p) i 0) (q % 64)) word ∙ ap (λ w. bit_at w (q % 64)) (get_or-set_same ws (p / 64) new 0 h) ∙ bit_at_set_other w64 n (p % 64) (omega arith) (q % 64) bit ∙ ap (λ i. bit_at (get_or ws i 0) (q % 64)) (sym word) in
        ap (λ w. nat_eq w 1) kept ∙ sym (or_false (bit_of ws q) (nat_eq p q) apart)

    by_word : (b : Bool) → nat_eq (q / 64) (p / 64) ≡ b → bit_of (with_bit ws p) q ≡ (bit_of ws q || nat_eq p q)
    by_word true e = by_bit (are_equal (q / 64) (p / 64) e) (nat_eq (q % 64) (p % 64)) refl
    by_word false e =
        let word : q / 64 ≢ p / 64 = are_apart (q / 64) (p / 64) e in
        let apart : nat_eq p q ≡ false = test_apart p q (λ s. word (omega (arith, s))) in
        ap (λ w. nat_eq (bit_at w (q % 64)) 1) (get_or-set_other ws (p / 64) (q / 64) new 0 word) ∙ sym (or_false (bit_of ws q) (nat_eq p q) apart)

pub not_true : (b : Bool) → not b ≡ true → b ≡ false
not_true true h = absurd (cc h)
not_true false h = refl
