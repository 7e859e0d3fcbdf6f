-- Elements that went to the places that their indices name.
use Rattle.std.specs.Prelude.{◌≡◌, ℕ, List, length, Some, slice_get}
use Rattle.nesl_values.specs.Tree.{ValueTree}
use Rattle.nesl_seqs_base.specs.Places.{place_of}

-- at each place that an index names is the element of that index
abbrev pub Arrive : {X : Type 0} → List X → List X → List ValueTree → Type 0
Arrive xs vs ts = (length vs ≡ length ts) × ((i k : ℕ) (t : ValueTree)
    → slice_get ts i ≡ Some t → place_of (length ts) t ≡ Some k → slice_get vs k ≡ slice_get xs i)
