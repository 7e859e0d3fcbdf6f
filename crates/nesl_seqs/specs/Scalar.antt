-- A leaf as a result.
use Rattle.std.specs.Prelude.{◌≡◌, Result, Ok, Err}
use Rattle.nesl_scalars.specs.declared.trap.Trap.{Trap}
use Rattle.nesl_values.specs.Tree.{ValueTree, int, boolean, character}
use Rattle.nesl_seqs_base.specs.Outcome.{Outcome, gives, traps, undefined}
use Rattle.nesl_seqs.specs.declared.fold.reductions.Scalar.{Scalar}
use Rattle.nesl_seqs.specs.declared.fold.reductions.Scalar.TheVariants.{Int, Bool, Char}

abbrev pub scalar_tree : Scalar → ValueTree
scalar_tree (Int n) = int n
scalar_tree (Bool b) = boolean b
scalar_tree (Char c) = character c

-- what was found is the outcome, or the fault is it, or it is undefined and there is some fault
abbrev pub ResultIs : {X : Type 0} → (X → ValueTree) → Outcome → Result X Trap → Type 0
ResultIs f o (Ok x) = o ≡ gives (f x)
ResultIs f (gives t) (Err e) = ⊥
ResultIs f (traps d) (Err e) = e ≡ d
ResultIs f undefined (Err e) = Unit {0}

-- the leaf is the outcome
abbrev pub ScalarIs : Outcome → Result Scalar Trap → Type 0
ScalarIs o r = ResultIs scalar_tree o r
