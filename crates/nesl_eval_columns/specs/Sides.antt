-- Places on two sides.
use Rattle.std.specs.Prelude.{◌≡◌, ℕ, Bool, cond, List, Some, slice_get}
use Rattle.nesl_eval_columns.specs.declared.sides.Sides.{Sides}

-- each place is in the list of its side, the first where it is true, at its rank
abbrev pub Ranks : List Bool → List ℕ → List ℕ → List ℕ → Type 0
Ranks bs ys ns is =
    (k : ℕ) (b : Bool) → slice_get bs k ≡ Some b
    → (i : ℕ) × (slice_get is k ≡ Some i) × (slice_get (cond b ys ns) i ≡ Some k)

abbrev pub Sorted : {A : Type 0} → Sides A → Type 0
Sorted s = Ranks s.flags.items s.yes.items s.no.items s.ranks.items
