-- Lengths and parts of sequences, and their nodes.
use Rattle.std.proofs.Common.{◌≡◌, ℕ, zero, suc, ◌+◌, ◌≤◌, List, [], ◌∷◌, length, take, drop, set, refl, arith}
use Rattle.nesl_values.specs.Tree.{ValueTree, ValueTrees, int, boolean, character, pair, seq, tagged, no_trees, tree_then, trees_of, size, sizes}
use Rattle.nesl_values.specs.Parts.{list_of}

pub size_positive : (t : ValueTree) → 1 ≤ size t
size_positive (int n) = omega arith
size_positive (boolean b) = omega arith
size_positive (character c) = omega arith
size_positive (pair l r) = omega arith
size_positive (seq ts) = omega arith
size_positive (tagged n t) = omega arith

pub sizes_list : (ts : ValueTrees) → sizes (trees_of (list_of ts)) ≡ sizes ts
sizes_list no_trees = refl
sizes_list (tree_then t ts) = omega (arith, sizes_list ts)

pub length_le : (ts : List ValueTree) → length ts ≤ sizes (trees_of ts)
length_le [] = omega arith
length_le (t ∷ ts) = omega (arith, length_le ts, size_positive t)

pub sizes_take : (k : ℕ) (ts : List ValueTree) → sizes (trees_of (take k ts)) ≤ sizes (trees_of ts)
sizes_take zero ts = omega arith
sizes_take (suc k) [] = omega arith
sizes_take (suc k) (t ∷ ts) = omega (arith, sizes_take k ts)

pub sizes_drop : (k : ℕ) (ts : List ValueTree) → sizes (trees_of (drop k ts)) ≤ sizes (trees_of ts)
sizes_drop zero ts = omega arith
sizes_drop (suc k) [] = omega arith
sizes_drop (suc k) (t ∷ ts) = omega (arith, sizes_drop k ts)

pub sizes_set : (ts : List ValueTree) (i : ℕ) (x : ValueTree) → sizes (trees_of (set ts i x)) ≤ sizes (trees_of ts) + size x
sizes_set [] i x = omega arith
sizes_set (t ∷ ts) zero x = omega arith
sizes_set (t ∷ ts) (suc i) x = omega (arith, sizes_set ts i x)
