-- When the comparison of two trees is right.
use Rattle.std.specs.Prelude.{◌≡◌, ◌↔◌, ℕ, ◌<◌, IsTrue}
use Rattle.nesl_values.specs.Tree.{size}
use Rattle.nesl_values.specs.View.{tree_of}
use Rattle.nesl_values.specs.declared.same.Comparison.{Comparison}

-- it decides whether `P` holds: by its answer, or by two values that are the same tree exactly where it does, and of
-- which the first has fewer than `n` nodes
abbrev pub Decides : {A B : Type 0} → Comparison A B → Type 0 → ℕ → Type 0
Decides (Comparison.Settled answer) P n = IsTrue answer ↔ P
Decides (Comparison.RestsOn x y) P n = ((tree_of x.now ≡ tree_of y.now) ↔ P) × (size (tree_of x.now) < n)
