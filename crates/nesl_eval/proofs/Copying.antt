-- Copies of what is at top level.
use Rattle.std.proofs.Common.{◌≡◌, ℕ, List, Option, Some, sym, ap, ◌∙◌, subst}
use Rattle.std.specs.Prelude.{slice_get, unwrap_or}
use Rattle.nesl_values.specs.View.{tree_of}
use Rattle.nesl_values.specs.declared.value.Value as code
use Rattle.nesl_eval_meaning.specs.Names.{Value}
use Rattle.nesl_eval_code.specs.Run.{Table, variable_slot, nothing_slot, slot_at}
use Rattle.nesl_eval.specs.Copied.{AreCopies, slot_value}

-- where there is a variable, its copy has its value
pub copy_stands : {A : Type 0} (t : Table) (vs : List (Option (code.Value A))) (k : ℕ) (v : code.Value A) (w : Value) → AreCopies t vs → slice_get vs k ≡ Some (Some v) → variable_slot w ≡ unwrap_or (slot_at t k) nothing_slot
    → variable_slot (tree_of v) ≡ unwrap_or (slot_at t k) nothing_slot
copy_stands t vs k v w copies there stands =
    let same : w ≡ tree_of v = ap slot_value stands ∙ sym (copies k v there) in
    subst (λ x. variable_slot x ≡ unwrap_or (slot_at t k) nothing_slot) same stands
