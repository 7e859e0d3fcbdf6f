-- Sequences, from the list of what their elements are.
use Rattle.std.proofs.Common.{◌≡◌, ℕ, ◌<◌, List, length, map, refl, ap, sym, ◌∙◌, arith, Some, get_or, slice_get}
use Rattle.std.proofs.lemmas.Option.{slice_get-map, slice_get-get_or}
use Rattle.std.proofs.lemmas.List.{length-map}
use Rattle.nesl_values.specs.Tree.{ValueTree, sequence}
use Rattle.nesl_values.specs.Parts.{elements}
use Rattle.nesl_values.proofs.Elements.{elements-sequence}

pub elements_of : {X : Type 0} (leaf : X → ValueTree) (xs : List X) (t : ValueTree) → t ≡ sequence (map leaf xs) → elements t ≡ map leaf xs
elements_of leaf xs t is = ap elements is ∙ elements-sequence (map leaf xs)

pub shows_of : {X : Type 0} (leaf : X → ValueTree) (xs : List X) (t : ValueTree) (n : ℕ) → t ≡ sequence (map leaf xs) → n ≡ length xs → (t ≡ sequence (elements t)) × (n ≡ length (elements t))
shows_of leaf xs t n is len =
    let all = elements_of leaf xs t is in
    (is ∙ sym (ap sequence all), len ∙ sym (length-map xs leaf) ∙ sym (ap length all))

-- the element at a place of what is seen in a list
pub item_at : {X : Type 0} (leaf : X → ValueTree) (xs : List X) (ts : List ValueTree) (i : ℕ) (d : X) → ts ≡ map leaf xs → i < length ts → slice_get ts i ≡ Some (leaf (get_or xs i d))
item_at leaf xs ts i d is h = rw (is, slice_get-map leaf xs i, slice_get-get_or xs i d (omega (arith, length-map xs leaf, ap length is))) refl
