-- The greatest and the least element of a sequence.
use Rattle.std.specs.Prelude.{ℕ, ℤ, pos, Bool, List, Option, Some, None, option_map, option_and_then, unsigned_abs}
use Rattle.std.specs.Prelude.{slice_get, int_le}
use Rattle.std.specs.List.{list_all, position}
use Rattle.nesl_scalars.specs.declared.trap.Trap.TheVariants.{Empty}
use Rattle.nesl_values.specs.Tree.{ValueTree, int, character}
use Rattle.nesl_values.specs.Parts.{as_int, as_char, as_sequence}
use Rattle.nesl_seqs_base.specs.Outcome.{Outcome, gives, traps, if_there, if_there_or}
use Rattle.nesl_seqs_base.specs.Reductions.{all_of}
use Rattle.nesl_seqs_base.specs.declared.order.Best.{Best}
use Rattle.nesl_seqs_base.specs.declared.order.Order.{Order}
use Rattle.nesl_seqs_base.specs.declared.order.Order.TheVariants.{Greatest, Least}
use Rattle.nesl_seqs_base.specs.declared.order.Kind.{Kind}
use Rattle.nesl_seqs_base.specs.declared.order.Kind.TheVariants.{Numbers, Codes}

-- the number by which an element is ordered: itself, or a character's code
abbrev pub key : Kind → ValueTree → Option ℤ
key Numbers t = as_int t
key Codes t = option_map pos (as_char t)

-- the element with that number
abbrev pub element_of : Kind → ℤ → ValueTree
element_of Numbers z = int z
element_of Codes z = character (unsigned_abs z)

-- whether the first number isn't exceeded by the second; for the least, whether the second isn't below it
abbrev pub leads : Order → ℤ → ℤ → Bool
leads Greatest y z = int_le z y
leads Least y z = int_le y z

-- the element at a place, with its number
abbrev pub element_with : ℕ → ℤ → Best
element_with i z = record { place = i; key = z }

-- the first element whose number no other exceeds; for the least alike
abbrev pub best : Order → List ℤ → Option Best
best o zs =
    option_and_then (λ i. option_map (element_with i) (slice_get zs i)) (position (λ z. list_all (leads o z) zs) zs)

-- what is made of the best, where there is one
abbrev pub or_empty : {X : Type 0} → (X → ValueTree) → Option X → Outcome
or_empty f (Some x) = gives (f x)
or_empty f None = traps Empty

-- what is made of the best of numbers, or of characters
abbrev pub of_best : Order → (Kind → Best → ValueTree) → ValueTree → Outcome
of_best o f t =
    if_there_or (option_and_then (all_of (key Numbers)) (as_sequence t)) (λ zs. or_empty (f Numbers) (best o zs))
    (if_there (option_and_then (all_of (key Codes)) (as_sequence t)) (λ zs. or_empty (f Codes) (best o zs)))

-- `max_val(v)` and `min_val(v)`
abbrev pub best_element : Order → ValueTree → Outcome
best_element o t = of_best o (λ k b. element_of k b.key) t

-- `max_index(v)` and `min_index(v)`
abbrev pub best_place : Order → ValueTree → Outcome
best_place o t = of_best o (λ k b. int (pos b.place)) t
