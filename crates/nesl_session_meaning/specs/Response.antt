-- What is replied to a line.
use Rattle.std.specs.Prelude.{ℕ, List, map, ◌++◌, Bool, true, false, Option, Some, None, codes}
use Rattle.nesl_reply.specs.declared.fault.Fault.{Fault}
use Rattle.nesl_reply.specs.declared.fault.Fault.TheVariants.{Memory, User, Busy}
use Rattle.nesl_reply.specs.Faults.{fault_text}
use Rattle.nesl_reply.specs.Replies.{Report, report_text}
use Rattle.nesl_session_meaning.specs.State.{State}
use Rattle.nesl_session_bindings.specs.Known.{datatypes_of}

-- the bytes with their line end, the fault if there is one, and whether the line was recorded
pub record Reply : Type 0 where
  pub bytes : List ℕ
  pub fault : Option Fault
  pub recorded : Bool

-- the reply to a line that is refused
abbrev pub fault_reply : Fault → Bool → Reply
fault_reply fault recorded = record { bytes = fault_text fault ++ codes "\n"; fault = Some fault; recorded = recorded }

-- the reply to any other line, with the names of the state before it
abbrev pub plain_reply : State → Report → Reply
plain_reply s t = record {
  bytes = report_text (datatypes_of s.bindings) (map (λ b. b.name) s.bindings) t ++ codes "\n";
  fault = None;
  recorded = true;
}

-- memory ran out, which is no part of a step
abbrev pub no_memory : Reply
no_memory = fault_reply Memory false

-- the line is of a user who isn't in the house
abbrev pub no_user : Reply
no_user = fault_reply User false

-- the line is of a user whose session is taken out
abbrev pub busy : Reply
busy = fault_reply Busy false

abbrev pub is_memory : Reply → Bool
is_memory reply = is_memory_fault reply.fault
  where
    is_memory_fault : Option Fault → Bool
    is_memory_fault (Some Memory) = true
    is_memory_fault _ = false
