-- What is still to be compared.
use Rattle.std.specs.Prelude.{◌≡◌, ◌↔◌, ℕ, Bool, true, false, ◌+◌, ◌*◌, ◌-◌, ◌<◌, ◌≤◌, List, [], ◌∷◌}
use Rattle.nesl_values.specs.Tree.{trees_of, size, sizes}
use Rattle.nesl_values.specs.View.{tree_of, item_trees}
use Rattle.nesl_values.specs.declared.listed.Question.{Question}

-- the two are the same
abbrev pub QuestionHolds : {A B : Type 0} → Question A B → Type 0
QuestionHolds (Question.Values x y) = tree_of x.now ≡ tree_of y.now
QuestionHolds (Question.Elements xs ys) = item_trees xs ≡ item_trees ys

abbrev pub AllMeet : {A B : Type 0} → List (Question A B) → Type 0
AllMeet [] = Unit {0}
AllMeet (q ∷ qs) = QuestionHolds q × AllMeet qs

-- a bound on the steps that are left
abbrev pub work_of : {A B : Type 0} → Question A B → ℕ
work_of (Question.Values x y) = 3 * size (tree_of x.now) - 1
work_of (Question.Elements xs ys) = 3 * sizes (trees_of (item_trees xs)) + 1

abbrev pub work_of_all : {A B : Type 0} → List (Question A B) → ℕ
work_of_all [] = 0
work_of_all (q ∷ qs) = work_of q + work_of_all qs

-- the questions `more` ask whether `P` holds, which takes `n` steps, and what `qs` ask
pub record Asks {A B : Type 0} (P : Type 0) (n : ℕ) (qs more : List (Question A B)) : Type 0 where
  pub meets : AllMeet more ↔ (P × AllMeet qs)
  pub work : work_of_all more ≤ n + work_of_all qs

-- the next of the questions `qs` is `q`, and the others are `rest`
pub record IsNext {A B : Type 0} (q : Question A B) (qs rest : List (Question A B)) : Type 0 where
  pub meets : AllMeet qs ↔ (QuestionHolds q × AllMeet rest)
  pub work : work_of_all qs ≡ work_of q + work_of_all rest

-- `P` doesn't hold, or it does where all the questions are answered by yes that `more` has beyond `qs`, in fewer than
-- `n` steps
abbrev pub Reduces : {A B : Type 0} → Bool → Type 0 → ℕ → List (Question A B) → List (Question A B) → Type 0
Reduces true P n qs more = (AllMeet more ↔ (P × AllMeet qs)) × (work_of_all more < n + work_of_all qs)
Reduces false P n qs more = P → ⊥
