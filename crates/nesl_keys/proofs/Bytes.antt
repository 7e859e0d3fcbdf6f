-- Bytes that differ.
use Rattle.std.proofs.Common.{◌≡◌, ℕ, bit_or, bit_xor, ap, ◌∙◌, arith}
use Rattle.std.specs.Int.Bits.{xor_add_and, xor_self, or_zero_l}
use Rattle.std.proofs.lemmas.Nat.{and_le_l, and_le_r, le_or_l, le_or_r}

-- bytes whose exclusive or is 0 are the same
pub same_from_xor : (a b : ℕ) → bit_xor a b ≡ 0 → a ≡ b
same_from_xor a b e =
    let whole = xor_add_and a b in
    let left = and_le_l a b in
    let right = and_le_r a b in
    omega (arith, whole, left, right, e)

-- an or is 0 only if both parts are
pub both_from_or : (a b : ℕ) → bit_or a b ≡ 0 → (a ≡ 0) × (b ≡ 0)
both_from_or a b e =
    let left = le_or_l a b in
    let right = le_or_r a b in
    (omega (arith, left, e), omega (arith, right, e))

-- if nothing differed so far, and these bytes are the same, nothing differs
pub none_differs : (d a b : ℕ) → d ≡ 0 → a ≡ b → bit_or d (bit_xor a b) ≡ 0
none_differs d a b z e =
    ap (λ n. bit_or n (bit_xor a b)) z ∙ or_zero_l (bit_xor a b) ∙ ap (λ n. bit_xor n b) e ∙ xor_self b
