-- Sequences of which each element goes to a place of its own.
use Rattle.std.specs.Prelude.{◌≡◌, ℕ, ℤ, pos, Bool, true, not, ◌&&◌, List, [], ◌∷◌, length, zip, cond, nat_eq, Some}
use Rattle.std.specs.Prelude.{slice_get}
use Rattle.std.specs.List.{list_any, filter_map, range_with_len}
use Rattle.nesl_scalars.specs.declared.trap.Trap.TheVariants.{Length, Permutation}
use Rattle.nesl_values.specs.Tree.{ValueTree, sequence}
use Rattle.nesl_seqs_base.specs.Outcome.{Outcome, gives, traps}
use Rattle.nesl_seqs_base.specs.Places.{at_places, arrival, place_of}

-- whether none occurs twice
abbrev pub all_differ : List ℕ → Bool
all_differ [] = true
all_differ (k ∷ ks) = not (list_any (nat_eq k) ks) && all_differ ks

-- at each place the element that goes there
abbrev pub rearranged : List ValueTree → List ℕ → List ValueTree
rearranged ts ks = filter_map (arrival (zip ks ts)) (range_with_len 0 (length ts))

-- `permute(v, i)`: each element goes to its index, where the lengths are the same, each index is a place and none
-- occurs twice
abbrev pub permuted : List ValueTree → List ℤ → Outcome
permuted ts zs = cond (nat_eq (length ts) (length zs))
    (at_places (length ts) zs (λ ks. cond (all_differ ks) (gives (sequence (rearranged ts ks))) (traps Permutation)))
    (traps Length)

-- the numbers say, at each place, which of the elements names it
abbrev pub Inverts : List ℤ → List ValueTree → Type 0
Inverts zs ts = (length zs ≡ length ts) × ((i k : ℕ) (t : ValueTree)
    → slice_get ts i ≡ Some t → place_of (length ts) t ≡ Some k → slice_get zs k ≡ Some (pos i))
