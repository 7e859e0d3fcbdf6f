-- The results of turns: the places that a filter keeps, or the values of a body.
use Rattle.std.specs.Prelude.{◌≡◌, ℕ, ◌++◌, [], List, Option, Some, None}
use Rattle.std.proofs.Common.{Bor}
use Rattle.nesl_values.specs.Tree.{ValueTree}
use Rattle.nesl_values_builder.specs.Elements.{elements_of}
use Rattle.nesl_eval_meaning.specs.Out.{Out, and_then, all_beside}
use Rattle.nesl_eval_meaning.specs.Outcome.{place_if_true, body_value}
use Rattle.nesl_eval_ops.specs.declared.ops.Body.{Body}
use Rattle.nesl_split.specs.declared.found.Wanted.{Wanted}
use Rattle.nesl_split.specs.declared.found.Wanted.TheVariants.{Places, Values}
use Rattle.nesl_split.specs.declared.found.Found.{Found}
use Rattle.nesl_split.specs.declared.found.Found.TheVariants as found

-- the elements of the results
abbrev pub Element : Wanted → Type 0
Element Places = ℕ
Element Values = ValueTree

-- the result of a turn, by the block's value at its place
abbrev pub of_value : (w : Wanted) → ℕ → ValueTree → Out (List (Element w))
of_value Places i v = place_if_true i v
of_value Values i v = body_value v

-- the results of a block at these places
abbrev pub found_at : (w : Wanted) → (ℕ → Out ValueTree) → List ℕ → Out (List (Element w))
found_at w f = all_beside (λ i. and_then (f i) (of_value w i))

-- the kind of a result
abbrev pub kind_of : Found → Wanted
kind_of (found.Places ks) = Places
kind_of (found.Values b) = Values

abbrev pub IsOf : Wanted → Found → Type 0
IsOf w f = kind_of f ≡ w

-- the list of a result of this kind
abbrev pub listed : (w : Wanted) → Found → List (Element w)
listed Places (found.Places ks) = ks.items
listed Places (found.Values b) = []
listed Values (found.Places ks) = []
listed Values (found.Values b) = elements_of b

-- the results are of this kind, and have these elements
abbrev pub Are : (w : Wanted) → Found → List (Element w) → Type 0
Are w f xs = IsOf w f × (listed w f ≡ xs)

-- these elements were added
abbrev pub Adds : (w : Wanted) → Found → Found → Unit {0} → List (Element w) → Type 0
Adds w f g u xs = listed w g ≡ listed w f ++ xs

-- a filter with a body after it gives places
abbrev pub wanted_with : Option (Bor Body) → Wanted
wanted_with (Some c) = Places
wanted_with None = Values
