-- Indices that name places, one after the other.
use Rattle.std.proofs.Common.{◌≡◌, ◌∙◌, ℕ, ◌+◌, ◌<◌, Bool, ◌&&◌, List, length, take, get_or, ap, sym, Option, is_some}
use Rattle.std.specs.List.{list_all}
use Rattle.std.proofs.lemmas.List.Folds.{list_all_more}
use Rattle.nesl_values.specs.Tree.{ValueTree}
use Rattle.nesl_seqs_base.specs.Places.{place_of}

-- one index more
pub named_more : {I : Type 0} (f : I → ValueTree) (n : ℕ) (is : List I) (j : ℕ) (i : I) (o : Option ℕ) (all named : Bool) → j < length is → i ≡ get_or is j i → o ≡ place_of n (f i) → named ≡ is_some o
    → all ≡ list_all (λ i. is_some (place_of n (f i))) (take j is) → (all && named) ≡ list_all (λ i. is_some (place_of n (f i))) (take (j + 1) is)
named_more f n is j i o all named within at place told done =
    ap (λ b. b && named) done ∙ ap (λ b. list_all (λ i. is_some (place_of n (f i))) (take j is) && b) (told ∙ ap is_some place ∙ ap (λ i. is_some (place_of n (f i))) at) ∙ sym (list_all_more (λ i. is_some (place_of n (f i))) is j i within)
