-- What a session knows, and what it stores.
use Rattle.std.specs.Prelude.{ℕ, ◌-◌, ◌+◌, List, [], length, sum_by}
use Rattle.nesl_session_bindings.specs.Meanings.{Binding, elements_of}
use Rattle.nesl_session_meaning.specs.declared.limits.Limits.{Limits}
use Rattle.nesl_session_meaning.specs.declared.limits.Remaining.{Remaining}

-- The names in order of first definition, the work that is left, the stored lines, and the parts of a form that isn't
-- complete yet. Also the work that was left at the last reset, and the number of lines recorded until then, the reset
-- included.
pub record State : Type 0 where
  pub bindings : List Binding
  pub work_left : ℕ
  pub transcript : List (List ℕ)
  pub pending : List ℕ
  pub base : ℕ
  pub cleared : ℕ

-- the state that a reset leaves, with this work left and this number of recorded lines
abbrev pub opening : (base cleared : ℕ) → State
opening base cleared = record {
  bindings = [];
  work_left = base;
  transcript = [];
  pending = [];
  base = base;
  cleared = cleared;
}

-- the state before the first line
abbrev pub empty : Limits → State
empty limits = opening limits.session_work 0

-- what is left of each limit
abbrev pub remaining_of : Limits → State → Remaining
remaining_of limits s = record {
  work = s.work_left;
  elements = limits.elements - elements_of s.bindings;
  lines = limits.transcript_lines - length s.transcript;
  bytes = limits.transcript_bytes - sum_by length s.transcript;
}

-- What callers see of a session: its limits, what the last reset left, and the lines that it has stored since. Its
-- state is the replay of these lines.
pub record Log : Type 0 where
  pub limits : Limits
  pub base : ℕ
  pub cleared : ℕ
  pub lines : List (List ℕ)

-- a session that has got no line yet
abbrev pub empty_log : Limits → Log
empty_log limits = record { limits = limits; base = limits.session_work; cleared = 0; lines = [] }

-- the number of lines that a session has recorded: those that it stores, and those that resets cleared
abbrev pub recorded_lines : Log → ℕ
recorded_lines log = log.cleared + length log.lines
