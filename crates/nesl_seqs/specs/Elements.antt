-- Sequences of numbers and of truth values, as they are held.
use Rattle.std.specs.Prelude.{ℤ, pos, Bool, false, List, map, unwrap_or}
use Rattle.std.specs.Int.{w64, int_wrap}
use Rattle.nesl_values.specs.Tree.{ValueTree}
use Rattle.nesl_values.specs.Parts.{as_int, as_bool}
use Rattle.nesl_values.specs.View.{tree_of}
use Rattle.nesl_seqs_base.specs.Reductions.{total}
use Rattle.nesl_seqs.specs.declared.fold.elements.Numbers.{Numbers}
use Rattle.nesl_seqs.specs.declared.fold.elements.Truths.{Truths}

-- the number that a tree is; of any other tree 0
abbrev pub number_in : ValueTree → ℤ
number_in t = unwrap_or (as_int t) (pos 0)

-- the truth value that a tree is; of any other tree false
abbrev pub truth_in : ValueTree → Bool
truth_in t = unwrap_or (as_bool t) false

abbrev pub numbers_of : {A : Type 0} → Numbers A → List ℤ
numbers_of (Numbers.Packed ns) = ns.now
numbers_of (Numbers.Loose vs) = map number_in (map tree_of vs.now)

abbrev pub truths_of : {A : Type 0} → Truths A → List Bool
truths_of (Truths.Packed bs) = bs.now
truths_of (Truths.Loose vs) = map truth_in (map tree_of vs.now)

-- the sum of whole numbers as 64 bits have it: where it is a number of 64 bits, the sum
abbrev pub wrapped_total : List ℤ → ℤ
wrapped_total zs = int_wrap w64 (total zs)
