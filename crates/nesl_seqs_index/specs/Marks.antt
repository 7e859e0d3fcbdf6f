-- Which places are marked, and whether each index has one of its own.
use Rattle.std.specs.Prelude.{◌≡◌, ℕ, ◌/◌, ◌%◌, Bool, not, ◌||◌, ◌&&◌, true, List, [], ◌∷◌, ◌++◌, nat_eq, slice_index}
use Rattle.std.specs.Prelude.{cond, Result, Ok, Err, is_some}
use Rattle.std.specs.Int.{bit_at}
use Rattle.std.specs.List.{list_all, list_any}
use Rattle.nesl_scalars.specs.declared.trap.Trap.{Trap}
use Rattle.nesl_scalars.specs.declared.trap.Trap.TheVariants.{Range, Permutation}
use Rattle.nesl_values.specs.Tree.{ValueTree}
use Rattle.nesl_seqs_base.specs.Permute.{all_differ}
use Rattle.nesl_seqs_base.specs.Places.{place_of, places_of}

-- the bit of these words that has q bits before it
abbrev pub is_marked : List ℕ → ℕ → Bool
is_marked ws q = nat_eq (bit_at (slice_index ws (q / 64)) (q % 64)) 1

-- whether a place is not in the window, or differs from all before it
abbrev pub is_new : ℕ → List ℕ → ℕ → Bool
is_new window seen k = not (nat_eq (k / 524288) window) || not (list_any (nat_eq k) seen)

-- whether each place of the window differs from all before it
abbrev pub are_new : ℕ → List ℕ → List ℕ → Bool
are_new window seen [] = true
are_new window seen (k ∷ ks) = is_new window seen k && are_new window (seen ++ k ∷ []) ks

-- the marks of a window are just at its places that were seen
abbrev pub MarksSeen : List ℕ → ℕ → List ℕ → Type 0
MarksSeen ws window seen = (k : ℕ) → k / 524288 ≡ window → is_marked ws (k % 524288) ≡ list_any (nat_eq k) seen

-- the indices each name one of n places, and no two the same, or else what is wrong with them
abbrev pub own_places : ℕ → List ValueTree → Result (Unit {0}) Trap
own_places n ts = cond (list_all (λ t. is_some (place_of n t)) ts)
    (cond (all_differ (places_of n ts)) (Ok tt) (Err Permutation))
    (Err Range)
