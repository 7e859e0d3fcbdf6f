-- The number that digits make.
use Rattle.std.proofs.Common.{◌≡◌, ℕ, ◌+◌, ◌-◌, ◌*◌, ◌≤◌, ◌<◌, List, [], ◌∷◌, length, drop, get_or, arith}
use Rattle.std.proofs.lemmas.List.{at_drop_more}
use Rattle.nesl_lex.specs.Lexemes.{with_digits}

value_grows : (n : ℕ) (ds : List ℕ) → n ≤ with_digits n ds
value_grows n [] = omega arith
value_grows n (d ∷ ds) = omega (arith, value_grows (n * 10 + (d - 48)) ds)

-- a number whose front is too large is too large
pub too_large : (value : ℕ) (ds : List ℕ) (i t : ℕ) → i < length ds → with_digits value (drop i ds) ≡ t → value * 10 + (get_or ds i 0 - 48) ≤ t
too_large value ds i t h k = omega (arith, value_grows (value * 10 + (get_or ds i 0 - 48)) (drop (i + 1) ds), at_drop_more (with_digits value) ds i 0 h)
