-- Code that evaluates to a leaf at each place, with the same work and depth.
use Rattle.std.specs.Prelude.{◌≡◌, ℕ, Bool, cond, List, [], ◌∷◌, ◌++◌}
use Rattle.nesl_eval_meaning.specs.Names.{Value}
use Rattle.nesl_eval_meaning.specs.Out.{Out, value}
use Rattle.nesl_eval_columns.specs.Each.{EachThree}

-- at each of the places this is the value, and both the work and the depth are the number beside it
abbrev pub Comes : (ℕ → Out Value) → List ℕ → List Value → List ℕ → Type 0
Comes p = EachThree (λ i v n. p i ≡ value v n n)

-- the places where a truth value is true
abbrev pub chosen : List ℕ → List Bool → List ℕ
chosen (i ∷ is) (b ∷ bs) = cond b (i ∷ []) [] ++ chosen is bs
chosen _ _ = []
