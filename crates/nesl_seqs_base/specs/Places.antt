-- Places that are named by numbers.
use Rattle.std.specs.Prelude.{ℕ, ℤ, pos, negsuc, Bool, List, cond, nat_lt, nat_eq, Option, Some, None, is_some}
use Rattle.std.specs.Prelude.{option_map, option_and_then, slice_get}
use Rattle.std.specs.List.{list_all, filter_map, find}
use Rattle.nesl_scalars.specs.declared.trap.Trap.TheVariants.{Range}
use Rattle.nesl_values.specs.Tree.{ValueTree}
use Rattle.nesl_values.specs.Parts.{as_int}
use Rattle.nesl_seqs_base.specs.Outcome.{Outcome, traps}

-- the place that a number names in a sequence of n elements
abbrev pub place_in : ℕ → ℤ → Option ℕ
place_in n (pos k) = cond (nat_lt k n) (Some k) None
place_in n (negsuc k) = None

-- whether each number names a place
abbrev pub all_name_places : ℕ → List ℤ → Bool
all_name_places n zs = list_all (λ z. is_some (place_in n z)) zs

-- the places that the numbers name
abbrev pub places_named : ℕ → List ℤ → List ℕ
places_named n zs = filter_map (place_in n) zs

-- the outcome that depends on the places, where each number names one
abbrev pub at_places : ℕ → List ℤ → (List ℕ → Outcome) → Outcome
at_places n zs f = cond (all_name_places n zs) (f (places_named n zs)) (traps Range)

-- the elements at places
abbrev pub elements_at : {X : Type 0} → List X → List ℕ → List X
elements_at xs ks = filter_map (slice_get xs) ks

-- the place that an element names, where it is a number
abbrev pub place_of : ℕ → ValueTree → Option ℕ
place_of n t = option_and_then (place_in n) (as_int t)

-- the places that elements name
abbrev pub places_of : ℕ → List ValueTree → List ℕ
places_of n ts = filter_map (place_of n) ts

-- the first of the elements that are put at a place
abbrev pub arrival : List (ℕ × ValueTree) → ℕ → Option ValueTree
arrival ws k = option_map (λ w. w.1) (find (λ w. nat_eq k w.0) ws)
