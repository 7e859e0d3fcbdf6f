use Rattle.std.proofs.Common.{◌≡◌, ℕ, List, [], ◌∷◌, ◌++◌, length}
use Rattle.nesl_types_shared.specs.Moving.{IsMoving}
use Rattle.nesl_types_shared.proofs.lists.+list_within.Given as goal

abbrev pub decreases-list_within : goal.decreases-list_within
decreases-list_within l = l.depth

abbrev pub invariant-loop : goal.invariant-loop
invariant-loop l = record {
  len : length l.places ≡ length l.from;
  kept : (root : ℕ) (stack : List ℕ) → IsMoving l.from root l.initial.shapes.items l.initial.places (stack ++ l.place ∷ []) → IsMoving l.from root l.shapes.items l.places (stack ++ l.place ∷ []);
}
