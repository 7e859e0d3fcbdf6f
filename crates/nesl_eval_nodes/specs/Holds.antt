-- What is lent of the top level.
use Rattle.std.specs.Prelude.{◌≡◌, ℕ, unwrap_or}
use Rattle.nesl_values.specs.View.{tree_of}
use Rattle.nesl_eval_code.specs.Run.{Slot, variable_slot, function_slot, datatype_slot, nothing_slot, Table, slot_at}
use Rattle.nesl_eval_nodes.specs.declared.held.Held.{Held}
use Rattle.nesl_eval_nodes.specs.declared.held.Held.TheVariants.{Variable, Function, Datatype, Nothing}

-- the slot that is lent
abbrev pub held_slot : {A : Type 0} → Held A → Slot
held_slot (Variable v) = variable_slot (tree_of v.now)
held_slot (Function c) = function_slot c.now
held_slot (Datatype k) = datatype_slot k
held_slot Nothing = nothing_slot

-- what is lent is what the table has at the place, or nothing where there is no such place
abbrev pub HoldsSlot : {A : Type 0} → Table → ℕ → Held A → Type 0
HoldsSlot t k h = held_slot h ≡ unwrap_or (slot_at t k) nothing_slot
