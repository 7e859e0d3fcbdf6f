-- Elements of a sequence that is the same at all places, and its length.
use Rattle.std.specs.Prelude.{◌≡◌, ℤ, pos, negsuc, List, length, Option, Some, None, slice_get}
use Rattle.nesl_values.specs.Tree.{int, size, pair}
use Rattle.nesl_values.specs.Parts.{as_sequence}
use Rattle.nesl_seqs_base.specs.declared.seq_fn.SeqFn.TheVariants.{ElementAt}
use Rattle.nesl_seqs_base.specs.Outcome.{gives}
use Rattle.nesl_seqs_base.specs.Meaning.{outcome_of}
use Rattle.nesl_eval_meaning.specs.Names.{Value}

-- the item at a number, counted from 0
abbrev pub at_number : {X : Type 0} → List X → ℤ → Option X
at_number xs (pos n) = slice_get xs n
at_number xs (negsuc n) = None

-- the third is the element of the first at the place that the second names, and it is a leaf
abbrev pub Picks : Value → Value → Value → Type 0
Picks v x z = (outcome_of ElementAt (pair v x) ≡ gives z) × (size z ≡ 1)

-- the second is the length of the first
abbrev pub IsLength : Value → Value → Type 0
IsLength v y = (ts : List Value) × (as_sequence v ≡ Some ts) × (y ≡ int (pos (length ts)))
