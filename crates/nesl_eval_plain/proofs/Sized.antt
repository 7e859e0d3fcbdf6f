-- How many nodes the values of columns have.
use Rattle.std.proofs.Common.{◌≡◌, ℕ, suc, ◌<◌, List, [], ◌∷◌, length, Option, Some, refl, sym, ◌∙◌, arith}
use Rattle.std.specs.Prelude.{slice_get}
use Rattle.std.proofs.lemmas.Option.{slice_get_within}
use Rattle.nesl_values.specs.Tree.{size}
use Rattle.nesl_eval_meaning.specs.Names.{Value}
use Rattle.nesl_eval_column_results.specs.Columns.{SameUpTo}
use Rattle.nesl_eval_column_results.specs.Values.{AreOfSize}

-- how many nodes values have
sized_each : (n : ℕ) (vs : List Value) → ((k : ℕ) (v : Value) → slice_get vs k ≡ Some v → size v ≡ n) → AreOfSize n vs
sized_each n [] h = tt
sized_each n (v ∷ vs) h = (h 0 v refl, sized_each n vs (λ k u e. h (suc k) u e))

pub sized_from : (n count : ℕ) (vs : List Value) (xs : ℕ → Option Value) → length vs ≡ count → SameUpTo count xs (slice_get vs) → ((k : ℕ) (v : Value) → xs k ≡ Some v → size v ≡ n) → AreOfSize n vs
sized_from n count vs xs len same few =
    sized_each n vs (λ k v e. let inside : k < count = omega (arith, slice_get_within vs k v e, len) in few k v (sym (same k inside) ∙ e))
