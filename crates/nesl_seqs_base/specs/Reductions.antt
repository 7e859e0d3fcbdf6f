-- Reductions: one leaf from all elements.
use Rattle.std.specs.Prelude.{ℤ, pos, ◌+ℤ◌, Bool, List, [], ◌∷◌, count_by, Option, Some, option_map, option_and_then}
use Rattle.std.specs.List.{list_any, list_all}
use Rattle.nesl_values.specs.Tree.{ValueTree, int, boolean}
use Rattle.nesl_seqs_base.specs.Outcome.{Outcome, gives, number}

-- what is read from each tree, where all of them have it
abbrev pub all_of : {X : Type 0} → (ValueTree → Option X) → List ValueTree → Option (List X)
all_of read [] = Some []
all_of read (t ∷ ts) = option_and_then (λ x. option_map (λ xs. x ∷ xs) (all_of read ts)) (read t)

-- the sum of whole numbers
abbrev pub total : List ℤ → ℤ
total [] = pos 0
total (z ∷ zs) = z +ℤ total zs

-- `sum(v)`
abbrev pub summed : List ℤ → Outcome
summed zs = number (total zs)

-- `any(v)`
abbrev pub some_true : List Bool → Outcome
some_true bs = gives (boolean (list_any (λ b. b) bs))

-- `all(v)`
abbrev pub all_true : List Bool → Outcome
all_true bs = gives (boolean (list_all (λ b. b) bs))

-- `count(v)`
abbrev pub count_of_true : List Bool → Outcome
count_of_true bs = gives (int (pos (count_by (λ b. b) bs)))
