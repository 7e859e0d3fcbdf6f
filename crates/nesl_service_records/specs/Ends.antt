-- Why a connection ended, and why a service did.
use Rattle.std.specs.Prelude.{Bool, true, false, Option, Some, None}
use Rattle.nesl_line.specs.declared.exchange.End.{End}
use Rattle.nesl_line.specs.declared.exchange.End.TheVariants as lines
use Rattle.nesl_service_records.specs.declared.journal.Missed.{Missed}
use Rattle.nesl_service_records.specs.declared.journal.Missed.TheVariants as missed
use Rattle.nesl_service_records.specs.declared.journal.Ending.{Ending}
use Rattle.nesl_service_records.specs.declared.journal.Ending.TheVariants as ending
use Rattle.nesl_service_records.specs.declared.numbers.Fault.{Fault}
use Rattle.nesl_service_records.specs.declared.numbers.Fault.TheVariants as fault

-- by how its lines ended, whether it was turned away, and what it missed
abbrev pub ending_of : End → (is_turned_away : Bool) → Option Missed → Ending
ending_of lines.Input true waited = ending.TurnedAway
ending_of lines.Input false (Some missed.Seat) = ending.Replaced
ending_of lines.Input false (Some missed.Leave) = ending.Dismissed
ending_of lines.Input false _ = ending.Input
ending_of lines.ReadFault away (Some missed.FirstLine) = ending.NoFirstLine
ending_of lines.ReadFault away (Some missed.Line) = ending.Idle
ending_of lines.ReadFault away (Some missed.Seat) = ending.Replaced
ending_of lines.ReadFault away (Some missed.Leave) = ending.Dismissed
ending_of lines.ReadFault away _ = ending.ReadFault
ending_of lines.WriteFault away (Some missed.Taking) = ending.NotTaken
ending_of lines.WriteFault away (Some missed.Seat) = ending.Replaced
ending_of lines.WriteFault away (Some missed.Leave) = ending.Dismissed
ending_of lines.WriteFault away _ = ending.WriteFault
ending_of lines.NoMemory away waited = ending.NoMemory

-- The fault that a service ends with, of the one before, if there was one, and another: one of a line that could not be
-- kept, or else one of a socket, or else one of memory.
abbrev pub gravest_of : Option Fault → Fault → Fault
gravest_of None later = later
gravest_of (Some fault.Keep) later = fault.Keep
gravest_of (Some fault.Socket) fault.Keep = fault.Keep
gravest_of (Some fault.Socket) later = fault.Socket
gravest_of (Some fault.Memory) later = later
