-- Worked cases of the definitions.
use Rattle.std.proofs.Common.{◌≡◌, [], ◌∷◌, pos, None, true, refl}
use Rattle.nesl_values.specs.Tree.{int, boolean, character, pair, tagged, sequence, size}
use Rattle.nesl_values.specs.Parts.{as_sequence, elements}

-- the sequence of 1 and 2 has three nodes
two_numbers : size (sequence (int (pos 1) ∷ int (pos 2) ∷ [])) ≡ 3
two_numbers = refl

-- the empty sequence has one, and so has the empty text
nothing : size (sequence []) ≡ 1
nothing = refl

-- a tagged pair of a truth value and a sequence of two characters
nested : size (tagged 7 (pair (boolean true) (sequence (character 97 ∷ character 98 ∷ [])))) ≡ 6
nested = refl

same_elements : elements (sequence (int (pos 1) ∷ int (pos 2) ∷ [])) ≡ int (pos 1) ∷ int (pos 2) ∷ []
same_elements = refl

no_sequence : as_sequence (pair (int (pos 1)) (int (pos 2))) ≡ None
no_sequence = refl
