-- How a run of the program fails, and its exit status.
use Rattle.std.specs.Prelude.{ℕ, List, Option, Some, None, Result, Ok, Err, slice_get, codes}
use Rattle.std.specs.Prelude.{if◌then◌else◌}
use Rattle.std.specs.Str.{bytes_eq}
use Rattle.clap.specs.declared.error.kind.ErrorKind.{ErrorKind}
use Rattle.clap.specs.declared.error.kind.ErrorKind.TheVariants as kinds
use Rattle.nesl_line.specs.declared.exchange.End.{End}
use Rattle.nesl_line.specs.declared.exchange.End.TheVariants.{Input, ReadFault, WriteFault, NoMemory}
use Rattle.nesl_service.specs.declared.service.ServeFault.TheVariants as serve_fault
use Rattle.nesl_cli.specs.declared.failure.Failure.{Failure}
use Rattle.nesl_cli.specs.declared.failure.Failure.TheVariants.{Read, Write, Memory, Serve}
use Rattle.nesl_cli.specs.declared.failure.Failure.TheVariants.{Count, Name, Twice, Encoding}
use Rattle.nesl_cli.specs.declared.failure.Failure.TheVariants.{Costs, Value, Taken, Stats, Folder, Kept, Prompt}
use Rattle.nesl_cli.specs.declared.failure.Failure.TheVariants.{Keys, NoKeys, KeysMemory, NoPage, KeptLimits}
use Rattle.nesl_cli.specs.declared.failure.Failure.TheVariants.{Users, Lessons, NoUsers, Open, Address}
use Rattle.nesl_cli.specs.declared.failure.Failure.TheVariants.{Socket, Request, RequestMemory}
use Rattle.nesl_kept.specs.declared.failure.LookFailure.{LookFailure}
use Rattle.nesl_kept.specs.declared.failure.LookFailure.TheVariants as look_failure
use Rattle.nesl_cli.specs.declared.prompt.PromptFault.TheVariants as prompt_fault
use Rattle.nesl_cli.specs.declared.prompt.PromptFault.{PromptFault}

-- of a look at kept sessions: 2 for a name that no user can have
abbrev pub look_status_of : LookFailure → ℕ
look_status_of (look_failure.Name name) = 2
look_status_of _ = 1

-- 1 for devices and memory, 2 for mistakes in the command line
abbrev pub status_of : Failure → ℕ
status_of Read = 1
status_of Write = 1
status_of Memory = 1
status_of (Serve fault) = 1
status_of Count = 2
status_of (Name name) = 2
status_of (Twice name) = 2
status_of Encoding = 2
status_of (Costs fault) = 1
status_of (Value text) = 2
status_of (Taken port) = 1
status_of (Stats file fault) = 1
status_of (Folder folder fault) = 1
status_of (Kept failure) = look_status_of failure
status_of (Keys file fault) = 1
status_of (NoKeys file fault) = 1
status_of KeysMemory = 1
status_of NoPage = 2
status_of KeptLimits = 2
status_of (Users file reason) = 1
status_of (Lessons folder reason) = 1
status_of NoUsers = 2
status_of Open = 2
status_of (Address text) = 2
status_of (Socket path reason) = 1
status_of (Request path reason) = 1
status_of RequestMemory = 1
status_of (Prompt fault) = 1

-- 0 where an offered service ended well
abbrev pub status_after : Result (Unit {0}) Failure → ℕ
status_after (Ok nothing) = 0
status_after (Err failure) = status_of failure

-- 0 for help and the version, 1 if memory ran out, 2 for each mistake in the command line
abbrev pub words_status_of : ErrorKind → ℕ
words_status_of kinds.DisplayHelp = 0
words_status_of kinds.DisplayVersion = 0
words_status_of kinds.OutOfMemory = 1
words_status_of _ = 2

-- the end of input is no failure
abbrev pub failure_of : End → Option Failure
failure_of Input = None
failure_of ReadFault = Some Read
failure_of WriteFault = Some Write
failure_of NoMemory = Some Memory

-- the fault of a prompt, by how it ended
abbrev pub prompt_failure_of : End → Option PromptFault
prompt_failure_of Input = None
prompt_failure_of ReadFault = Some prompt_fault.Read
prompt_failure_of WriteFault = Some prompt_fault.Write
prompt_failure_of NoMemory = Some prompt_fault.Memory

-- the failure where memory ran out before a run, by the word after the program's name: the service's for `serve`, the
-- prompt's for `repl`, that of a look at kept sessions for `keep`, that of keys for `keys`, and that of a
-- request for `control`
abbrev pub memory_failure_by : List ℕ → Failure
memory_failure_by word =
    if bytes_eq word (codes "serve") then Serve serve_fault.Memory
    else if bytes_eq word (codes "repl") then Prompt prompt_fault.Memory
    else if bytes_eq word (codes "keep") then Kept look_failure.Memory
    else if bytes_eq word (codes "keys") then KeysMemory
    else if bytes_eq word (codes "control") then RequestMemory
    else Memory

abbrev pub memory_failure_at : Option (List ℕ) → Failure
memory_failure_at None = Memory
memory_failure_at (Some word) = memory_failure_by word

abbrev pub memory_failure_of : List (List ℕ) → Failure
memory_failure_of words = memory_failure_at (slice_get words 1)
