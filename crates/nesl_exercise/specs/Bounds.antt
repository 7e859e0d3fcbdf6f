-- What a bound is at a number n: exact arithmetic in whole numbers.
use Rattle.std.specs.Prelude.{◌≡◌, ◌≢◌, ◌⊎◌, ℕ, ◌+◌, ◌*◌, ◌/◌, ◌^◌, ◌<◌, ◌≤◌, List, [], ◌∷◌}
use Rattle.nesl_exercise.specs.declared.bound.Op.{Op}
use Rattle.nesl_exercise.specs.declared.bound.Op.TheVariants.{Number, N, OfOne, OfTwo}
use Rattle.nesl_exercise.specs.declared.bound.UnaryOp.{UnaryOp}
use Rattle.nesl_exercise.specs.declared.bound.UnaryOp.TheVariants.{Bits, Log2}
use Rattle.nesl_exercise.specs.declared.bound.BinaryOp.{BinaryOp}
use Rattle.nesl_exercise.specs.declared.bound.BinaryOp.TheVariants.{Plus, Minus, Times, Over, Power}

-- the greatest k with 2 ^ k ≤ a
abbrev pub IsLog2 : ℕ → ℕ → Type 0
IsLog2 a k = (2 ^ k ≤ a) × (a < 2 * 2 ^ k)

-- what is computed of one number; `bits` is the number of its binary digits, 0 for 0
abbrev pub IsOfOne : UnaryOp → ℕ → ℕ → Type 0
IsOfOne Log2 a v = IsLog2 a v
IsOfOne Bits a v = ((a ≡ 0) × (v ≡ 0)) ⊎ ((k : ℕ) × IsLog2 a k × (v ≡ k + 1))

-- what is computed of two numbers
abbrev pub IsOfTwo : BinaryOp → ℕ → ℕ → ℕ → Type 0
IsOfTwo Plus a b v = v ≡ a + b
IsOfTwo Minus a b v = v + b ≡ a
IsOfTwo Times a b v = v ≡ a * b
IsOfTwo Over a b v = (b ≢ 0) × (v ≡ a / b)
IsOfTwo Power a b v = v ≡ a ^ b

-- what one operation does to the numbers so far, the newest first
abbrev pub Does : Op → ℕ → List ℕ → List ℕ → Type 0
Does (Number m) n s s' = s' ≡ m ∷ s
Does N n s s' = s' ≡ n ∷ s
Does (OfOne one) n [] s' = ⊥
Does (OfOne one) n (a ∷ s) s' = (v : ℕ) × IsOfOne one a v × (s' ≡ v ∷ s)
Does (OfTwo two) n [] s' = ⊥
Does (OfTwo two) n (b ∷ []) s' = ⊥
Does (OfTwo two) n (b ∷ a ∷ s) s' = (v : ℕ) × IsOfTwo two a b v × (s' ≡ v ∷ s)

-- and what all of them do, one after another
abbrev pub Computes : List Op → ℕ → List ℕ → List ℕ → Type 0
Computes [] n s s' = s' ≡ s
Computes (op ∷ ops) n s s' = (mid : List ℕ) × Does op n s mid × Computes ops n mid s'
