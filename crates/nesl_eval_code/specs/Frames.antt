-- The values of local names, by place.
use Rattle.std.specs.Prelude.{ℕ, List, [], ◌∷◌, map, Option, Some, option_and_then, slice_get}
use Rattle.nesl_values.specs.Parts.{as_pair, as_tagged, elements}
use Rattle.nesl_eval_code.specs.declared.code.Step.{Step}
use Rattle.nesl_eval_code.specs.declared.code.Step.TheVariants.{Left, Right, Inside}
use Rattle.nesl_eval_meaning.specs.Names.{Value}

-- the frames, the newest first; a place may be without a value where an expression has no type
abbrev pub Frames : Type 0
Frames = List (List (Option Value))

-- the part of a value to which these steps lead
abbrev pub followed : List Step → Value → Option Value
followed [] v = Some v
followed (Left ∷ steps) v = option_and_then (λ p. followed steps p.0) (as_pair v)
followed (Right ∷ steps) v = option_and_then (λ p. followed steps p.1) (as_pair v)
followed (Inside ∷ steps) v = option_and_then (λ p. followed steps p.1) (as_tagged v)

-- the value `up` frames up, at that index of the frame
abbrev pub place_in : Frames → ℕ → ℕ → Option Value
place_in fs up i = option_and_then (λ o. o) (option_and_then (λ vs. slice_get vs i) (slice_get fs up))

-- the part of it to which these steps lead
abbrev pub local_at : Frames → ℕ → ℕ → List Step → Option Value
local_at fs up i steps = option_and_then (followed steps) (place_in fs up i)

-- the frame of these values
abbrev pub frame : List Value → List (Option Value)
frame vs = map Some vs

-- the frame of the elements of sequences at a place
abbrev pub row : ℕ → List Value → List (Option Value)
row i vs = map (λ v. slice_get (elements v) i) vs
