-- Sequences that are made as slices are.
use Rattle.std.proofs.Common.{◌≡◌, List, map, reverse, ap, ◌∙◌, Result, Ok, Err, IfOk}
use Rattle.nesl_values.specs.Tree.{ValueTree, sequence}
use Rattle.nesl_values.specs.View.{tree_of}
use Rattle.nesl_values.specs.declared.value.Value.{Value}
use Rattle.nesl_seqs_base.proofs.Totals.{map_reverse}

-- a value that was made of some trees is that of the same trees
pub made : {A : Type 0} {E : Type 0} (r : Result (Value A) E) (us ts : List ValueTree) → IfOk r (λ v. tree_of v ≡ sequence us) → us ≡ ts → IfOk r (λ v. tree_of v ≡ sequence ts)
made (Ok v) us ts h e = h ∙ ap sequence e
made (Err x) us ts h e = tt

pub mapped_reverse : {X : Type 0} (f : X → ValueTree) (ys xs : List X) (ts : List ValueTree) → ys ≡ reverse xs → map f xs ≡ ts → map f ys ≡ reverse ts
mapped_reverse f ys xs ts h seen = ap (map f) h ∙ map_reverse f xs ∙ ap reverse seen
