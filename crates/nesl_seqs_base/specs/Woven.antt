-- Every other element of a sequence, and sequences that are woven together.
use Rattle.std.specs.Prelude.{◌+◌, ◌||◌, List, [], ◌∷◌, length, drop, cond, nat_eq}
use Rattle.nesl_scalars.specs.declared.trap.Trap.TheVariants.{Length}
use Rattle.nesl_values.specs.Tree.{ValueTree, sequence}
use Rattle.nesl_seqs_base.specs.Outcome.{Outcome, gives, traps}

-- the elements at the places 0, 2 and so on: the first, and then those of what comes after the second
abbrev pub evens : {X : Type 0} → List X → List X
evens [] = []
evens (x ∷ []) = x ∷ []
evens (x ∷ y ∷ xs) = x ∷ evens xs

-- the elements at the places 1, 3 and so on: those at even places of what comes after the first
abbrev pub odds : {X : Type 0} → List X → List X
odds xs = evens (drop 1 xs)

-- `even_elts(v)`
abbrev pub even_elements : List ValueTree → Outcome
even_elements ts = gives (sequence (evens ts))

-- `odd_elts(v)`
abbrev pub odd_elements : List ValueTree → Outcome
odd_elements ts = gives (sequence (odds ts))

-- one element of each in turn, as long as both have one, and then the others
abbrev pub woven : {X : Type 0} → List X → List X → List X
woven [] ys = ys
woven (x ∷ xs) [] = x ∷ xs
woven (x ∷ xs) (y ∷ ys) = x ∷ y ∷ woven xs ys

-- `interleave(v, w)`: v has as many elements as w, or one more
abbrev pub interleaved : List ValueTree → List ValueTree → Outcome
interleaved ts us =
    cond (nat_eq (length ts) (length us) || nat_eq (length ts) (length us + 1)) (gives (sequence (woven ts us)))
    (traps Length)
