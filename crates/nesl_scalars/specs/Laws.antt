-- What the words for whole numbers mean, and calls that are worked by hand.
use Rattle.std.specs.Prelude.{◌≡◌, ◌≢◌, true, ℕ, ◌<◌, ℤ, pos, negsuc, ◌+ℤ◌, ◌*ℤ◌, ◌≤ℤ◌, ◌<ℤ◌, unsigned_abs, int_div}
use Rattle.nesl_values.specs.Tree.{int, boolean, character}
use Rattle.nesl_scalars.specs.Integers.{IsRoot, quotient_down, remainder, root}
use Rattle.nesl_scalars.specs.Outcomes.{gives, traps, undefined}
use Rattle.nesl_scalars.specs.Scalars.{unary, binary}
use Rattle.nesl_scalars.specs.declared.trap.Trap.TheVariants as trap
use Rattle.nesl_scalars.specs.declared.unary.Unary.TheVariants as one
use Rattle.nesl_scalars.specs.declared.binary.Binary.TheVariants as two

-- a number is the divisor times the quotient, and the remainder, which is smaller than the divisor
abbrev pub QuotientAndRemainder : Type 0
QuotientAndRemainder =
    (a b : ℤ) → b ≢ pos 0 → (a ≡ b *ℤ int_div a b +ℤ remainder a b) × (unsigned_abs (remainder a b) < unsigned_abs b)

-- it never has the other sign than the number that is divided, so the quotient is rounded towards zero
abbrev pub SignOfRemainder : Type 0
SignOfRemainder = (a b : ℤ) → b ≢ pos 0 → (pos 0 ≤ℤ a → pos 0 ≤ℤ remainder a b) × (a ≤ℤ pos 0 → remainder a b ≤ℤ pos 0)

-- the quotient rounded down is the greatest number that times k is at most a
abbrev pub RoundedDown : Type 0
RoundedDown =
    (a : ℤ) (k : ℕ) → 0 < k → ((quotient_down a k *ℤ pos k) ≤ℤ a) × (a <ℤ ((quotient_down a k +ℤ pos 1) *ℤ pos k))

-- `root` is the greatest number whose square is at most n
abbrev pub GreatestRoot : Type 0
GreatestRoot = (n : ℕ) → IsRoot n (root n)

-- the least and the greatest number
abbrev pub least : ℤ
least = negsuc 9223372036854775807

abbrev pub greatest : ℤ
greatest = pos 9223372036854775807

-- calls of the functions
abbrev pub LeastByMinusOne : Type 0
LeastByMinusOne =
    (binary two.Rem (int least) (int (negsuc 0)) ≡ gives (int (pos 0)))
    × (binary two.Divide (int least) (int (negsuc 0)) ≡ traps trap.Overflow)

abbrev pub SevenByTwo : Type 0
SevenByTwo =
    (binary two.Divide (int (negsuc 6)) (int (pos 2)) ≡ gives (int (negsuc 2)))
    × (binary two.Rshift (int (negsuc 6)) (int (pos 1)) ≡ gives (int (negsuc 3)))

abbrev pub ByZero : Type 0
ByZero =
    (binary two.Divide (int (pos 7)) (int (pos 0)) ≡ traps trap.Division)
    × (binary two.Rem (int (pos 7)) (int (pos 0)) ≡ traps trap.Division)

abbrev pub Shifts : Type 0
Shifts =
    (binary two.Lshift (int (pos 1)) (int (pos 63)) ≡ traps trap.Overflow)
    × (binary two.Lshift (int (negsuc 0)) (int (pos 63)) ≡ gives (int least))
    × (binary two.Lshift (int (pos 1)) (int (pos 64)) ≡ traps trap.Range)

abbrev pub RootOfGreatest : Type 0
RootOfGreatest = unary one.Isqrt (int greatest) ≡ gives (int (pos 3037000499))

abbrev pub Complement : Type 0
Complement =
    (unary one.Not (int (pos 0)) ≡ gives (int (negsuc 0)))
    × (binary two.And (int (negsuc 0)) (int (pos 6)) ≡ gives (int (pos 6)))
    × (binary two.Xor (int (pos 5)) (int (pos 3)) ≡ gives (int (pos 6)))

abbrev pub Mixed : Type 0
Mixed =
    (binary two.Add (int (pos 1)) (boolean true) ≡ undefined)
    × (binary two.Equal (boolean true) (boolean true) ≡ undefined)
    × (binary two.Equal (character 97) (character 97) ≡ gives (boolean true))
