-- The values of variables in another heap.
use Rattle.std.specs.Prelude.{◌≡◌, ℕ, pos, List, Option, Some, slice_get, unwrap_or}
use Rattle.std.specs.Coded.{Coded-set}
use Rattle.nesl_values.specs.Codes.{tree_code}
use Rattle.nesl_values.specs.Tree as values
use Rattle.nesl_values.specs.View.{tree_of}
use Rattle.nesl_values.specs.declared.value.Value as code
use Rattle.nesl_eval_meaning.specs.Names.{Value}
use Rattle.nesl_eval_code.specs.Run.{Table, Slot, variable_slot, nothing_slot, slot_at}

-- the value of the variable at a place, or 0 where there is none
abbrev pub slot_value : Slot → Value
slot_value (variable_slot v) = v
slot_value _ = values.int (pos 0)

abbrev pub tree_at : Table → ℕ → Value
tree_at t k = slot_value (unwrap_or (slot_at t k) nothing_slot)

-- each copy is of the variable at its place
abbrev pub AreCopies : {A : Type 0} → Table → List (Option (code.Value A)) → Type 0
AreCopies {A = A} t vs = (k : ℕ) (v : code.Value A) → slice_get vs k ≡ Some (Some v) → tree_of v ≡ tree_at t k

pub copies-prop : {A : Type 0} (t : Table) (vs : List (Option (code.Value A))) → IsProp (AreCopies t vs)
copies-prop t vs = Prim.hlevel (Coded-set tree_code)
