-- The functions on numbers, truth values and characters. They and their refusals are this profile's; each is checked
-- for its refusals in the order given here.
use Rattle.std.specs.Prelude.{ℕ, ◌^◌, ◌%◌, ℤ, pos, ◌+ℤ◌, ◌-ℤ◌, ◌*ℤ◌, neg_ℤ, Bool, not, ◌&&◌, ◌||◌, ◌==◌}
use Rattle.std.specs.Prelude.{nat_lt, nat_le, max, min, int_lt, int_le, int_div, unsigned_abs, if◌then◌else◌}
use Rattle.std.specs.Int.{w64, int_min, int_max, int_bit_and, int_bit_or, int_bit_xor, int_bit_not}
use Rattle.nesl_values.specs.Tree.{ValueTree, int, boolean, character}
use Rattle.nesl_scalars.specs.declared.trap.Trap.TheVariants as trap
use Rattle.nesl_scalars.specs.declared.unary.Unary.{Unary}
use Rattle.nesl_scalars.specs.declared.unary.Unary.TheVariants as one
use Rattle.nesl_scalars.specs.declared.binary.Binary.{Binary}
use Rattle.nesl_scalars.specs.declared.binary.Binary.TheVariants as two
use Rattle.nesl_scalars.specs.Integers.{fits, quotient_down, remainder, root}
use Rattle.nesl_scalars.specs.Outcomes.{Outcome, gives, traps, undefined}

abbrev pub truth : Bool → Outcome
truth b = gives (boolean b)

-- a number, if it fits
abbrev pub number : ℤ → Outcome
number z = if fits z then gives (int z) else traps trap.Overflow

abbrev pub is_zero : ℤ → Bool
is_zero a = unsigned_abs a == 0

abbrev pub is_odd : ℤ → Bool
is_odd a = unsigned_abs a % 2 == 1

-- a shift is by 0 to 63 places
abbrev pub is_shift : ℤ → Bool
is_shift n = int_le (pos 0) n && int_lt n (pos 64)

-- functions of a number
abbrev pub of_int : Unary → ℤ → Outcome
of_int one.Not a = gives (int (int_bit_not w64 a))
of_int one.Plusp a = truth (int_lt (pos 0) a)
of_int one.Minusp a = truth (int_lt a (pos 0))
of_int one.Zerop a = truth (is_zero a)
of_int one.Oddp a = truth (is_odd a)
of_int one.Evenp a = truth (not (is_odd a))
of_int one.Negate a = number (neg_ℤ a)
of_int one.Abs a = number (pos (unsigned_abs a))
of_int one.Isqrt a = if int_lt a (pos 0) then traps trap.Range else gives (int (pos (root (unsigned_abs a))))
of_int one.CodeChar a =
    if int_le (pos 0) a && int_lt a (pos 256) then gives (character (unsigned_abs a)) else traps trap.Code
of_int f a = undefined

-- of a truth value
abbrev pub of_bool : Unary → Bool → Outcome
of_bool one.Not b = truth (not b)
of_bool one.Btoi b = gives (int (pos (if b then 1 else 0)))
of_bool f b = undefined

-- of a character
abbrev pub of_char : Unary → ℕ → Outcome
of_char one.CharCode c = gives (int (pos c))
of_char f c = undefined

-- what a function of one argument has for it
abbrev pub unary : Unary → ValueTree → Outcome
unary f (int a) = of_int f a
unary f (boolean b) = of_bool f b
unary f (character c) = of_char f c
unary f t = undefined

-- functions of two numbers
abbrev pub of_ints : Binary → ℤ → ℤ → Outcome
of_ints two.And a b = gives (int (int_bit_and w64 a b))
of_ints two.Or a b = gives (int (int_bit_or w64 a b))
of_ints two.Xor a b = gives (int (int_bit_xor w64 a b))
of_ints two.Nand a b = gives (int (int_bit_not w64 (int_bit_and w64 a b)))
of_ints two.Nor a b = gives (int (int_bit_not w64 (int_bit_or w64 a b)))
of_ints two.Equal a b = truth (is_zero (a -ℤ b))
of_ints two.Unequal a b = truth (not (is_zero (a -ℤ b)))
of_ints two.Less a b = truth (int_lt a b)
of_ints two.Greater a b = truth (int_lt b a)
of_ints two.AtMost a b = truth (int_le a b)
of_ints two.AtLeast a b = truth (int_le b a)
of_ints two.Add a b = number (a +ℤ b)
of_ints two.Subtract a b = number (a -ℤ b)
of_ints two.Multiply a b = number (a *ℤ b)
of_ints two.Divide a b = if is_zero b then traps trap.Division else number (int_div a b)
of_ints two.Rem a b = if is_zero b then traps trap.Division else gives (int (remainder a b))
of_ints two.Max a b = gives (int (int_max a b))
of_ints two.Min a b = gives (int (int_min a b))
of_ints two.Lshift a n = if is_shift n then number (a *ℤ pos (2 ^ unsigned_abs n)) else traps trap.Range
of_ints two.Rshift a n = if is_shift n then gives (int (quotient_down a (2 ^ unsigned_abs n))) else traps trap.Range

-- of two truth values
abbrev pub of_bools : Binary → Bool → Bool → Outcome
of_bools two.And a b = truth (a && b)
of_bools two.Or a b = truth (a || b)
of_bools two.Xor a b = truth (if a then not b else b)
of_bools two.Nand a b = truth (not (a && b))
of_bools two.Nor a b = truth (not (a || b))
of_bools f a b = undefined

-- of two characters, which are ordered by their codes
abbrev pub of_chars : Binary → ℕ → ℕ → Outcome
of_chars two.Equal c d = truth (c == d)
of_chars two.Unequal c d = truth (not (c == d))
of_chars two.Less c d = truth (nat_lt c d)
of_chars two.Greater c d = truth (nat_lt d c)
of_chars two.AtMost c d = truth (nat_le c d)
of_chars two.AtLeast c d = truth (nat_le d c)
of_chars two.Max c d = gives (character (max c d))
of_chars two.Min c d = gives (character (min c d))
of_chars f c d = undefined

-- what a function of two arguments has for them
abbrev pub binary : Binary → ValueTree → ValueTree → Outcome
binary f (int a) (int b) = of_ints f a b
binary f (boolean a) (boolean b) = of_bools f a b
binary f (character c) (character d) = of_chars f c d
binary f s t = undefined
