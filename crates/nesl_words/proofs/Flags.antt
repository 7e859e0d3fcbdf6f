-- What is read of a flag.
use Rattle.std.proofs.Common.{◌≡◌, ℕ, List, [], Option, Some, None, map, slice_get, option_map, sym, ap, ◌∙◌}
use Rattle.std.specs.Prelude.{option_and_then, unwrap_or}
use Rattle.std.proofs.lemmas.Option.{slice_get-map}
use Rattle.nesl_words.specs.Words.{is_true}

-- the first text among those that were found is the first of those that were read
pub first_read : {A S : Type 0} (f : A → List ℕ) (g : S → List A) (texts : Option S) (found : Option (List (List ℕ))) → option_map (λ s. map f (g s)) texts ≡ found
    → is_true (option_and_then (λ s. option_map f (slice_get (g s) 0)) texts) ≡ is_true (slice_get (unwrap_or found []) 0)
first_read f g None found e = ap (λ x. is_true (slice_get (unwrap_or x []) 0)) e
first_read f g (Some s) found e = ap is_true (sym (slice_get-map f (g s) 0)) ∙ ap (λ x. is_true (slice_get (unwrap_or x []) 0)) e
