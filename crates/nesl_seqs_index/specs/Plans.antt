-- What a plan builds, and for which price.
use Rattle.std.specs.Prelude.{◌≡◌, ℕ, ◌+◌, ◌<◌, ◌≤◌, ◌^◌, ⊤, IsTrue, length, map, is_some, Result, Ok, Err}
use Rattle.std.specs.List.{list_all}
use Rattle.nesl_scalars.specs.declared.trap.Trap.{Trap}
use Rattle.nesl_values.specs.Tree.{ValueTree, sequence}
use Rattle.nesl_values.specs.Parts.{as_int}
use Rattle.nesl_values.specs.View.{tree_of, item_trees}
use Rattle.nesl_seqs_base.specs.Outcome.{Outcome, IsGiven, if_there, gives, traps, undefined}
use Rattle.nesl_seqs_base.specs.Permute.{permuted, rearranged}
use Rattle.nesl_seqs_base.specs.Places.{elements_at, place_of, places_of}
use Rattle.nesl_seqs_base.specs.Reductions.{all_of}
use Rattle.nesl_seqs_base.specs.Woven.{evens, woven}
use Rattle.nesl_seqs_base.specs.Write.{overwritten, writes_of}
use Rattle.nesl_seqs_index.specs.declared.plan.Plan.{Plan}

-- the tree that is built
abbrev pub built : {A : Type 0} → Plan A → ValueTree
built (Plan.EveryOther xs n) = sequence (evens (item_trees xs))
built (Plan.Woven xs ys) = sequence (woven (item_trees xs) (item_trees ys))
built (Plan.Gathered xs is) =
    sequence (elements_at (item_trees xs) (places_of (length (item_trees xs)) (item_trees is)))
built (Plan.Permuted xs is) =
    sequence (rearranged (item_trees xs) (places_of (length (item_trees xs)) (item_trees is)))
built (Plan.Written xs ps) =
    sequence (overwritten (item_trees xs) (writes_of (length (item_trees xs)) (map tree_of ps.now)))

-- how many elements are read
abbrev pub read_by : {A : Type 0} → Plan A → ℕ
read_by (Plan.EveryOther xs n) = n
read_by (Plan.Woven xs ys) = length (item_trees xs) + length (item_trees ys)
read_by (Plan.Gathered xs is) = length (item_trees xs) + length (item_trees is)
read_by (Plan.Permuted xs is) = length (item_trees xs) + length (item_trees is)
read_by (Plan.Written xs ps) = length (item_trees xs) + length ps.now

-- what is known of what is planned
abbrev pub IsSound : {A : Type 0} → Plan A → Type 0
IsSound (Plan.EveryOther xs n) = ⊤
IsSound (Plan.Woven xs ys) = length (item_trees ys) ≤ length (item_trees xs)
IsSound (Plan.Gathered xs is) =
    IsTrue (list_all (λ t. is_some (place_of (length (item_trees xs)) t)) (item_trees is))
IsSound (Plan.Permuted xs is) =
    (length (item_trees xs) < 2 ^ 63) × IsGiven (if_there (all_of as_int (item_trees is)) (permuted (item_trees xs)))
IsSound (Plan.Written xs ps) = ⊤

-- the plan builds the outcome from as many elements, or the fault is the outcome, or it is undefined and there is
-- some fault
abbrev pub Plans : {A : Type 0} → Outcome → ℕ → Result (Plan A) Trap → Type 0
Plans o read (Ok p) = (o ≡ gives (built p)) × (read_by p ≡ read) × IsSound p
Plans (gives t) read (Err e) = ⊥
Plans (traps d) read (Err e) = e ≡ d
Plans undefined read (Err e) = Unit {0}
