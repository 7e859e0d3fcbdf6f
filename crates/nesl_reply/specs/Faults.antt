-- The faults: the number and the word of each, and the text of its reply.
use Rattle.std.specs.Prelude.{ℕ, List, ◌++◌, codes, decimal}
use Rattle.nesl_lex.specs.declared.token.Span.{Span}
use Rattle.nesl_scalars.specs.declared.trap.Trap.{Trap}
use Rattle.nesl_scalars.specs.declared.trap.Trap.TheVariants as trap
use Rattle.nesl_reply.specs.declared.fault.Stop.{Stop}
use Rattle.nesl_reply.specs.declared.fault.Fault.{Fault}
use Rattle.nesl_reply.specs.declared.fault.Fault.TheVariants.{Long, Lexical, Syntax, Nested, Unknown, IllTyped}
use Rattle.nesl_reply.specs.declared.fault.Fault.TheVariants.{Ambiguous, Retype, Taken, Overflow, Division, Range}
use Rattle.nesl_reply.specs.declared.fault.Fault.TheVariants.{Code, Length, Empty, Permutation, Count, Stride, Deep}
use Rattle.nesl_reply.specs.declared.fault.Fault.TheVariants.{Large, Work, Elements, Transcript, Memory, User, Busy}

-- in the order of the checks
abbrev pub number_of : Fault → ℕ
number_of Long = 1
number_of (Lexical at) = 2
number_of Syntax = 3
number_of Nested = 4
number_of (Unknown span) = 5
number_of IllTyped = 6
number_of Ambiguous = 7
number_of Retype = 8
number_of Taken = 9
number_of (Overflow stop) = 10
number_of (Division stop) = 11
number_of (Range stop) = 12
number_of (Code stop) = 13
number_of (Length stop) = 14
number_of (Empty stop) = 15
number_of (Permutation stop) = 16
number_of (Count stop) = 17
number_of (Stride stop) = 18
number_of (Deep stop) = 19
number_of (Large stop) = 20
number_of (Work work) = 21
number_of (Elements work) = 22
number_of Transcript = 23
number_of Memory = 24
number_of User = 25
number_of Busy = 26

-- ` (work W)`
abbrev pub work_text : ℕ → List ℕ
work_text work = codes " (work " ++ decimal work ++ codes ")"

-- ` (work 0)`: no work was spent
abbrev pub no_work : List ℕ
no_work = codes " (work 0)"

-- ` at S..E`
abbrev pub span_text : Span → List ℕ
span_text span = codes " at " ++ decimal span.start ++ codes ".." ++ decimal span.end

abbrev pub stop_text : Stop → List ℕ
stop_text stop = span_text stop.span ++ work_text stop.work

-- The word of a fault, its place in the line, and the work that was spent. A fault that belongs to no session reports
-- no work.
abbrev pub fault_words : Fault → List ℕ
fault_words Long = codes "long" ++ no_work
fault_words (Lexical at) = codes "lexical at " ++ decimal at ++ no_work
fault_words Syntax = codes "syntax" ++ no_work
fault_words Nested = codes "nested" ++ no_work
fault_words (Unknown span) = codes "unknown" ++ span_text span ++ no_work
fault_words IllTyped = codes "type" ++ no_work
fault_words Ambiguous = codes "ambiguous" ++ no_work
fault_words Retype = codes "retype" ++ no_work
fault_words Taken = codes "taken" ++ no_work
fault_words (Overflow stop) = codes "overflow" ++ stop_text stop
fault_words (Division stop) = codes "division" ++ stop_text stop
fault_words (Range stop) = codes "range" ++ stop_text stop
fault_words (Code stop) = codes "code" ++ stop_text stop
fault_words (Length stop) = codes "length" ++ stop_text stop
fault_words (Empty stop) = codes "empty" ++ stop_text stop
fault_words (Permutation stop) = codes "permutation" ++ stop_text stop
fault_words (Count stop) = codes "count" ++ stop_text stop
fault_words (Stride stop) = codes "stride" ++ stop_text stop
fault_words (Deep stop) = codes "deep" ++ stop_text stop
fault_words (Large stop) = codes "large" ++ stop_text stop
fault_words (Work work) = codes "work" ++ work_text work
fault_words (Elements work) = codes "elements" ++ work_text work
fault_words Transcript = codes "transcript" ++ no_work
fault_words Memory = codes "memory" ++ no_work
fault_words User = codes "user"
fault_words Busy = codes "busy"

abbrev pub fault_text : Fault → List ℕ
fault_text fault = codes "fault " ++ fault_words fault

-- the fault of an evaluation that has no value
abbrev pub fault_of : Trap → Stop → Fault
fault_of trap.Overflow stop = Overflow stop
fault_of trap.Division stop = Division stop
fault_of trap.Range stop = Range stop
fault_of trap.Code stop = Code stop
fault_of trap.Length stop = Length stop
fault_of trap.Empty stop = Empty stop
fault_of trap.Permutation stop = Permutation stop
fault_of trap.Count stop = Count stop
fault_of trap.Stride stop = Stride stop
fault_of trap.Deep stop = Deep stop
fault_of trap.Large stop = Large stop
