-- The values at the turns of a block.
use Rattle.std.specs.Prelude.{◌≡◌, ℕ, ◌+◌, ◌<◌, ◌≤◌, List, slice_get, Option, Some, None}
use Rattle.nesl_values.specs.Tree.{pair, size}
use Rattle.nesl_values.specs.View.{tree_of}
use Rattle.nesl_eval_code.specs.declared.code.Step.{Step}
use Rattle.nesl_eval_code.specs.Frames.{followed}
use Rattle.nesl_eval_meaning.specs.Names.{Value}
use Rattle.nesl_eval_meaning.specs.Out.{value}
use Rattle.nesl_eval_meaning.specs.Outcome.{apply_builtin}
use Rattle.nesl_builtins.specs.declared.builtin.Builtin.{Builtin}
use Rattle.nesl_lex.specs.declared.token.Span.{Span}
use Rattle.nesl_eval_columns.specs.Columns.{leaves_of}
use Rattle.nesl_eval_column_results.specs.declared.columns.Columns.{Columns, Same, Leaves, Pair'}

-- the pair of two, if both are there
abbrev pub both : Option Value → Option Value → Option Value
both (Some x) (Some y) = Some (pair x y)
both _ _ = None

-- the value at a turn
abbrev pub value_at : {A : Type 0} → Columns A → ℕ → Option Value
value_at (Same v) = λ k. Some (tree_of v)
value_at (Leaves c) = slice_get (leaves_of c)
value_at (Pair' p one q other) = λ k. both (value_at one k) (value_at other k)

-- how many leaves and single values there are at a turn
abbrev pub breadth_of : {A : Type 0} → Columns A → ℕ
breadth_of (Same v) = 1
breadth_of (Leaves c) = 1
breadth_of (Pair' p one q other) = breadth_of one + breadth_of other

-- the second are the first at the first `n` turns
abbrev pub SameUpTo : ℕ → (ℕ → Option Value) → (ℕ → Option Value) → Type 0
SameUpTo n xs ys = (k : ℕ) → k < n → ys k ≡ xs k

-- the third are the pairs of the first and the second, wherever these are, and are small enough
abbrev pub Pairs : (ℕ → Option Value) → (ℕ → Option Value) → (ℕ → Option Value) → Type 0
Pairs xs ys zs =
    (k : ℕ) (x y : Value) → xs k ≡ Some x → ys k ≡ Some y → (zs k ≡ Some (pair x y)) × (size (pair x y) ≤ 1048576)

-- the second are the parts of the first to which the steps lead, wherever these are
abbrev pub Leads : List Step → (ℕ → Option Value) → (ℕ → Option Value) → Type 0
Leads steps xs ys =
    (k : ℕ) (v : Value) → xs k ≡ Some v → (w : Value) × (followed steps v ≡ Some w) × (ys k ≡ Some w)

-- at the first `n` turns the function has the second for the first, where these are, without further cost
abbrev pub Applies : {A : Type 0} → Builtin → Span → ℕ → (ℕ → Option Value) → Columns A → Type 0
Applies g s n xs c =
    (k : ℕ) (x : Value) → k < n → xs k ≡ Some x
    → (y : Value) × (value_at c k ≡ Some y) × (apply_builtin s g x ≡ value y 0 0)
