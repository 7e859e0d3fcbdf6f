-- The places of an apply-to-each, and what is made at them.
use Rattle.std.specs.Prelude.{◌≡◌, ℕ, Bool, cond, List, [], ◌∷◌}
use Rattle.std.specs.List.{range_with_len}
use Rattle.nesl_values.specs.View.{tree_of}
use Rattle.nesl_values_builder.specs.Elements.{elements_of}
use Rattle.nesl_values.specs.declared.value.Value as code
use Rattle.nesl_values_builder.specs.declared.builder.SequenceBuilder.{SequenceBuilder}
use Rattle.nesl_eval_meaning.specs.Names.{Value}
use Rattle.nesl_eval_nodes.specs.declared.places.Places.{Places}

-- the places, from the first to the last
abbrev pub places_of : Places → List ℕ
places_of (Places.All n) = range_with_len 0 n
places_of (Places.These is) = is.now

-- whether the place is kept
abbrev pub IsKeptPlace : ℕ → Bool → List ℕ → Type 0
IsKeptPlace i b is = cond b (i ∷ []) [] ≡ is

-- the value alone is the list
abbrev pub IsOne : {A : Type 0} → code.Value A → List Value → Type 0
IsOne v ts = tree_of v ∷ [] ≡ ts

-- the elements that a builder has are the list
abbrev pub Has : {A : Type 0} → SequenceBuilder A → List Value → Type 0
Has b ts = elements_of b ≡ ts
