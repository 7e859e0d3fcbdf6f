-- What is left to write of a value, as a list of tasks.
use Rattle.std.specs.Prelude.{ℕ, ◌+◌, ◌*◌, ◌-◌, ◌≡◌, codes, if◌then◌else◌, flat_map, List, [], ◌∷◌, ◌++◌}
use Rattle.std.specs.Fmt.{signed_decimal}
use Rattle.nesl_values.specs.Tree.{ValueTree, int, boolean, character, size, sizes}
use Rattle.nesl_values.specs.View.{tree_of, trees_view}
use Rattle.nesl_types_shared.specs.Term.{Term}
use Rattle.nesl_reply.specs.declared.value.Task.{Task}
use Rattle.nesl_reply.specs.Values.{DatatypesByTag, value_text, later_elements_text, character_text, is_text_type}

-- the text of a leaf
abbrev pub leaf_text : ValueTree → List ℕ
leaf_text (int n) = signed_decimal n
leaf_text (boolean b) = if b then codes "T" else codes "F"
leaf_text (character c) = character_text c
leaf_text t = []

-- leaves, each with a comma before it
abbrev pub other_leaves : List ValueTree → List ℕ
other_leaves ts = flat_map (λ t. codes ", " ++ leaf_text t) ts

-- a list of leaves, which has at least one
abbrev pub leaves_text : ValueTree → List ValueTree → List ℕ
leaves_text t ts = codes "[" ++ leaf_text t ++ other_leaves ts ++ codes "]"

-- an empty sequence
abbrev pub empty_text : Term → List ℕ
empty_text t = if is_text_type t then codes "\"\"" else codes "[]"

-- leaves as a list
abbrev pub list_text : Term → List ValueTree → List ℕ
list_text t [] = empty_text t
list_text t (u ∷ us) = leaves_text u us

-- what a task still writes
abbrev pub task_text : DatatypesByTag → Task → List ℕ
task_text known (Task.Value v t brackets) = value_text known brackets t (tree_of v.now)
task_text known (Task.Others vs t) = later_elements_text known t (trees_view vs.now)
task_text known (Task.Bytes bs) = bs.now

-- the last task is carried out first
abbrev pub tasks_text : DatatypesByTag → List Task → List ℕ
tasks_text known [] = []
tasks_text known (x ∷ xs) = tasks_text known xs ++ task_text known x

-- an upper bound on the number of steps that are left
abbrev pub task_work : Task → ℕ
task_work (Task.Value v t brackets) = 4 * size (tree_of v.now) - 1
task_work (Task.Others vs t) = 4 * sizes (trees_view vs.now) + 1
task_work (Task.Bytes bs) = 1

abbrev pub tasks_work : List Task → ℕ
tasks_work [] = 0
tasks_work (x ∷ xs) = task_work x + tasks_work xs

-- to carry out `ys` is to carry out `x` and then `xs`
pub record IsNext (x : Task) (ys xs : List Task) : Type 0 where
  pub text : (known : DatatypesByTag) → tasks_text known ys ≡ task_text known x ++ tasks_text known xs
  pub work : tasks_work ys ≡ task_work x + tasks_work xs
