-- The costs at the turns of a block.
use Rattle.std.specs.Prelude.{◌≡◌, ℕ, max, Bool, cond, List, [], ◌∷◌, ◌+◌, map, replicate, slice_get, Option, Some}
use Rattle.std.specs.Prelude.{None, option_map, Vec}
use Rattle.nesl_eval_column_results.specs.declared.costs.Costs.{Costs}

-- the cost at a turn: `n`, which is the same at all, and what the turn has besides
abbrev pub cost_in : {A : Type 0} → ℕ → Option (Vec ℕ A) → ℕ → Option ℕ
cost_in n None k = Some n
cost_in n (Some v) k = option_map (λ m. n + m) (slice_get v.items k)

abbrev pub costs_at : {A : Type 0} → Costs A → ℕ → Option ℕ
costs_at c = cost_in c.same c.more

-- the costs at `count` turns
abbrev pub costs_in : {A : Type 0} → ℕ → Option (Vec ℕ A) → ℕ → List ℕ
costs_in n None count = replicate count n
costs_in n (Some v) count = map (λ m. n + m) v.items

abbrev pub each_cost : {A : Type 0} → Costs A → ℕ → List ℕ
each_cost c = costs_in c.same c.more

-- the third is the sum of the first and the second, wherever these are
abbrev pub Sums : (ℕ → Option ℕ) → (ℕ → Option ℕ) → (ℕ → Option ℕ) → Type 0
Sums ms ns os = (k m n : ℕ) → ms k ≡ Some m → ns k ≡ Some n → os k ≡ Some (m + n)

-- the last is, at each turn, the first or the second, by the flag, at the rank
abbrev pub Merges : {X : Type 0} → List Bool → List ℕ → (ℕ → Option X) → (ℕ → Option X) → (ℕ → Option X) → Type 0
Merges bs is ps qs rs =
    (k : ℕ) (b : Bool) (i : ℕ) → slice_get bs k ≡ Some b → slice_get is k ≡ Some i → rs k ≡ cond b (ps i) (qs i)

-- the greatest of numbers
abbrev pub greatest : List ℕ → ℕ
greatest [] = 0
greatest (n ∷ ns) = max n (greatest ns)
