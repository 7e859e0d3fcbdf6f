-- The places of the top level that code reaches.
use Rattle.std.specs.Prelude.{◌≡◌, ◌<◌, ℕ, List, [], ◌∷◌, ◌++◌, Bool, true, cond, ◌==◌, Option, Some, None}
use Rattle.std.specs.Prelude.{Contains, length, slice_get, sum_by}
use Rattle.std.specs.List.{list_any}
use Rattle.nesl_eval_code.specs.declared.code.Code.{Code, Top, Named, Pair', Apply', ApplyTwo', ApplyThree', Call'}
use Rattle.nesl_eval_code.specs.declared.code.Code.{CallNamed', Choice'}
use Rattle.nesl_eval_code.specs.declared.code.Code.{Sequence', Let', Each', FilteredEach', items-the_row-Code}
use Rattle.nesl_eval_code.specs.Run.{Table, function_slot, slot_at}
use Rattle.nesl_eval_code.specs.Means.{names_of, place_of}

-- the place that a node names itself, besides its parts
abbrev pub own_place : Table → Code → Option ℕ
own_place t (Top s k) = Some k
own_place t (Named s x) = place_of (names_of t) x.items
own_place t (Call' s k p a) = Some k
own_place t (CallNamed' s x p a) = place_of (names_of t) x.items
own_place t _ = None

-- the parts of a node
abbrev pub parts_of : Code → List Code
parts_of (Pair' s p a q b) = a ∷ b ∷ []
parts_of (Apply' s g p a) = a ∷ []
parts_of (ApplyTwo' s g p a q b) = a ∷ b ∷ []
parts_of (ApplyThree' s g p a q b r c) = a ∷ b ∷ c ∷ []
parts_of (Call' s k p a) = a ∷ []
parts_of (CallNamed' s x p a) = a ∷ []
parts_of (Choice' s p a q b r c) = a ∷ b ∷ c ∷ []
parts_of (Sequence' s n cs) = items-the_row-Code _ cs
parts_of (Let' s n cs p e) = items-the_row-Code _ cs ++ e ∷ []
parts_of (Each' s n cs p e) = items-the_row-Code _ cs ++ e ∷ []
parts_of (FilteredEach' s n cs p e q c) = items-the_row-Code _ cs ++ e ∷ c ∷ []
parts_of _ = []

-- code refers to a place: it names it itself, or one of its parts refers to it
pub data Refers (t : Table) : Code → ℕ → Type 0 where
  by_itself : {c : Code} {k : ℕ} → own_place t c ≡ Some k → Refers t c k
  in_part : {c : Code} {k : ℕ} (part : Code) → Contains (parts_of c) part → Refers t part k → Refers t c k

-- code reaches a place: it refers to it, or the body of a function at a place that it reaches does
pub data Reaches (t : Table) (c : Code) : ℕ → Type 0 where
  directly : {k : ℕ} → Refers t c k → Reaches t c k
  in_body :
      {k : ℕ} (j : ℕ) (body : Code)
      → Reaches t c j → slot_at t j ≡ Some (function_slot body) → Refers t body k → Reaches t c k

abbrev pub IsMarked : List Bool → ℕ → Type 0
IsMarked marks k = slice_get marks k ≡ Some true

-- each place to which the code refers is marked
abbrev pub Marks : Table → List Bool → Code → Type 0
Marks t marks c = (k : ℕ) → Refers t c k → k < length marks → IsMarked marks k

-- how many places are marked
abbrev pub count_of : List Bool → ℕ
count_of marks = sum_by (λ m. cond m 1 0) marks

-- each marked place is in the queue
abbrev pub AreQueued : List Bool → List ℕ → Type 0
AreQueued marks queue = (k : ℕ) → IsMarked marks k → list_any (λ place. place == k) queue ≡ true

-- marks are added, and places after the queue
pub record Grows (old new : List Bool) (queue longer : List ℕ) : Type 0 where
  pub places : length new ≡ length old
  pub kept : (k : ℕ) → IsMarked old k → IsMarked new k
  pub added : (more : List ℕ) × (longer ≡ queue ++ more)
