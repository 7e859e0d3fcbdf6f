-- What the command line asks for.
use Rattle.std.specs.Prelude.{ℕ, ◌-◌, ◌^◌, true, List, [], Option, Some, None, codes, unwrap_or}
use Rattle.std.specs.Prelude.{slice_get, Bool, false, drop, option_and_then, if◌then◌else◌}
use Rattle.std.specs.Str.{bytes_eq}
use Rattle.std.specs.Str.Parse.{digits_value, without_leading_plus}
use Rattle.clap.specs.Simple.{App, subcommand_of}
use Rattle.clap.specs.Walk.{Row, all_of, first_of, one_of}
use Rattle.clap.specs.ValueTests.{is_unsigned_in}
use Rattle.clap.specs.Faults.{fault_of}
use Rattle.clap.specs.declared.error.kind.ErrorKind.{ErrorKind}
use Rattle.nesl_words.specs.Rules.{program, keep_program}

abbrev pub is_keep_word : Option (List ℕ) → Bool
is_keep_word None = false
is_keep_word (Some word) = bytes_eq word (codes "keep")

-- the word after the program's name is `keep`
abbrev pub is_keep : List (List ℕ) → Bool
is_keep words = is_keep_word (slice_get words 1)

-- the command that reads the words, and those that it reads, its own name first
abbrev pub reader_of : List (List ℕ) → App
reader_of words = if is_keep words then keep_program else program

abbrev pub words_read : List (List ℕ) → List (List ℕ)
words_read words = if is_keep words then drop 1 words else words

-- why the words are refused, or that they ask for help or for the version
abbrev pub faults_of : List (List ℕ) → List ErrorKind
faults_of words = fault_of (reader_of words) (words_read words)

-- the users among what was found, and those after the subcommand
abbrev pub users_among : List Row → List (List ℕ)
users_among rows = unwrap_or (all_of (codes "USER") rows) []

abbrev pub users_in : Option (List ℕ × List Row) → List (List ℕ)
users_in None = []
users_in (Some p) = users_among p.1

abbrev pub users_of : List (List ℕ) → List (List ℕ)
users_of words = users_in (subcommand_of (reader_of words) (words_read words))

-- the number that a text spells, if it is below 2^64
abbrev pub number : List ℕ → Option ℕ
number text =
    if is_unsigned_in 0 (2 ^ 64 - 1) text then Some (digits_value 10 (without_leading_plus text)) else None

-- the number with this name among what was found, if there is one
abbrev pub number_among : List ℕ → List Row → Option ℕ
number_among name rows = option_and_then number (one_of name rows)

-- the text with this name among what was found, if there is one
abbrev pub text_among : List ℕ → List Row → Option (List ℕ)
text_among name rows = first_of name rows

-- whether a flag is set, by its text among what was found: clap has `true` or `false` for each flag
abbrev pub is_true : Option (List ℕ) → Bool
is_true None = false
is_true (Some text) = bytes_eq text (codes "true")

abbrev pub is_among : List ℕ → List Row → Bool
is_among name rows = is_true (slice_get (unwrap_or (all_of name rows) []) 0)

-- the limits of each session, where they are given: its work, in a line and in all, its elements, and the lines and
-- bytes that are recorded of it
pub record LimitWords : Type 0 where
  pub line_work : Option ℕ
  pub session_work : Option ℕ
  pub elements : Option ℕ
  pub transcript_lines : Option ℕ
  pub transcript_bytes : Option ℕ

-- a batch, the bytes of its heap, if it has one, whether hints are written below faults, and limits
pub record Batch : Type 0 where
  pub heap : Option ℕ
  pub is_hinted : Bool
  pub limits : LimitWords

-- a prompt, whether hints are written even without a terminal, whether files are opened even without one, and limits
pub record Prompt : Type 0 where
  pub is_hinted : Bool
  pub has_files : Bool
  pub limits : LimitWords

-- the costs of a batch, for the values of `n` in this text, the bytes of its heap, if it has one, and limits
pub record Costs : Type 0 where
  pub values : List ℕ
  pub heap : Option ℕ
  pub limits : LimitWords

-- what an operator and a monitor reach of a service, where it is given: the path of a socket, a port, and the file of
-- the log
pub record OperatorWords : Type 0 where
  pub control : Option (List ℕ)
  pub metrics : Option ℕ
  pub log_file : Option (List ℕ)

-- A service. It has a port, and the number of helpers that its threads share. It may have a number of connections after
-- which it ends, a port for its page, and a further name for that. It may have a number of seconds for lines and
-- answers, and one for first lines. It has a flag for the log, and maybe a file for its counters, and a folder where
-- sessions are kept. It may have a file of keys, the name of a header that names the users of its page, an address to
-- listen at, and limits. A file may list further users. It has a flag for a check of all that, without a service. An
-- operator may reach it.
pub record Service : Type 0 where
  pub port : Option ℕ
  pub workers : Option ℕ
  pub connections : Option ℕ
  pub web : Option ℕ
  pub web_host : Option (List ℕ)
  pub lessons : Option (List ℕ)
  pub idle : Option ℕ
  pub first_line : Option ℕ
  pub is_logged : Bool
  pub stats : Option (List ℕ)
  pub keep : Option (List ℕ)
  pub keys : Option (List ℕ)
  pub user_header : Option (List ℕ)
  pub bind : Option (List ℕ)
  pub limits : LimitWords
  pub users : Option (List ℕ)
  pub is_check : Bool
  pub operator : OperatorWords

-- new keys: the file that lists them, whether it is there already and keys are renewed, and the address of the page
pub record NewKeys : Type 0 where
  pub file : Option (List ℕ)
  pub is_renewed : Bool
  pub page : Option (List ℕ)

-- what is done with kept sessions
pub data KeepWord : Type 0 where
  checks : KeepWord
  shows : KeepWord
  renews : KeepWord
  tabulates : KeepWord

-- a look at kept sessions: what is done, and with the sessions of which folder
pub record Keep : Type 0 where
  pub word : KeepWord
  pub folder : Option (List ℕ)

-- how the grades of submissions are written
pub data Report : Type 0 where
  as_table : Report
  as_csv : Report
  as_json : Report
  as_junit : Report

-- A grading. It has an exercise, and a report. It may have a folder for pages, one of kept sessions, a number of
-- threads, and a flag for the exercise's own solution.
pub record Grading : Type 0 where
  pub exercise : Option (List ℕ)
  pub report : Report
  pub html : Option (List ℕ)
  pub kept : Option (List ℕ)
  pub jobs : Option ℕ
  pub is_try : Bool

-- what is to be done
pub data Task : Type 0 where
  a_batch : Batch → Task
  some_costs : Costs → Task
  a_service : Service → Task
  a_prompt : Prompt → Task
  a_look : Keep → Task
  some_keys : NewKeys → Task
  a_request : (path : Option (List ℕ)) → Task
  a_grading : Grading → Task

abbrev pub limits_among : List Row → LimitWords
limits_among rows = record {
  line_work = number_among (codes "LINE_WORK") rows;
  session_work = number_among (codes "SESSION_WORK") rows;
  elements = number_among (codes "ELEMENTS") rows;
  transcript_lines = number_among (codes "LINES") rows;
  transcript_bytes = number_among (codes "LINE_BYTES") rows;
}

-- a batch, or its costs where values for them are given
abbrev pub batch_among
    : (values : Option (List ℕ)) → (heap : Option ℕ) → (is_hinted : Bool) → (limits : LimitWords) → Task
batch_among None heap is_hinted limits = a_batch (record { heap = heap; is_hinted = is_hinted; limits = limits })
batch_among (Some values) heap is_hinted limits =
    some_costs (record { values = values; heap = heap; limits = limits })

abbrev pub prompt_among : List Row → Prompt
prompt_among rows = record {
  is_hinted = is_among (codes "HINTS") rows;
  has_files = is_among (codes "FILES") rows;
  limits = limits_among rows;
}

abbrev pub operator_among : List Row → OperatorWords
operator_among rows = record {
  control = text_among (codes "CONTROL") rows;
  metrics = number_among (codes "METRICS") rows;
  log_file = text_among (codes "LOG_FILE") rows;
}

abbrev pub service_among : List Row → Service
service_among rows = record {
  port = number_among (codes "PORT") rows;
  workers = number_among (codes "WORKERS") rows;
  connections = number_among (codes "CONNECTIONS") rows;
  web = number_among (codes "WEB") rows;
  web_host = text_among (codes "HOST") rows;
  lessons = text_among (codes "LESSONS") rows;
  idle = number_among (codes "SECONDS") rows;
  first_line = number_among (codes "FIRST") rows;
  is_logged = is_among (codes "LOG") rows;
  stats = text_among (codes "FILE") rows;
  keep = text_among (codes "FOLDER") rows;
  keys = text_among (codes "KEYS") rows;
  user_header = text_among (codes "HEADER") rows;
  bind = text_among (codes "BIND") rows;
  limits = limits_among rows;
  users = text_among (codes "USERS") rows;
  is_check = is_among (codes "CHECK") rows;
  operator = operator_among rows;
}

abbrev pub keys_among : List Row → NewKeys
keys_among rows = record {
  file = text_among (codes "FILE") rows;
  is_renewed = is_among (codes "RENEW") rows;
  page = text_among (codes "ADDRESS") rows;
}

-- the first of these reports that is asked for, or else a table
abbrev pub report_among : (is_csv is_json is_junit : Bool) → Report
report_among is_csv is_json is_junit =
    if is_csv then as_csv else if is_json then as_json else if is_junit then as_junit else as_table

abbrev pub grading_among : List Row → Grading
grading_among rows = record {
  exercise = text_among (codes "EXERCISE") rows;
  report = report_among (is_among (codes "CSV") rows) (is_among (codes "JSON") rows) (is_among (codes "JUNIT") rows);
  html = text_among (codes "HTML") rows;
  kept = text_among (codes "KEPT") rows;
  jobs = number_among (codes "JOBS") rows;
  is_try = is_among (codes "TRY") rows;
}

-- the word of `keep` with this name, if it is one
abbrev pub word_named : List ℕ → Option KeepWord
word_named name =
    if bytes_eq name (codes "check") then Some checks
    else if bytes_eq name (codes "show") then Some shows
    else if bytes_eq name (codes "renew") then Some renews
    else if bytes_eq name (codes "csv") then Some tabulates
    else None

-- no limits by words
abbrev pub no_limits : LimitWords
no_limits = record {
  line_work = None;
  session_work = None;
  elements = None;
  transcript_lines = None;
  transcript_bytes = None;
}

-- a look at kept sessions by a word of `keep`, or else a batch
abbrev pub look_or_batch : Option KeepWord → List Row → Task
look_or_batch (Some word) rows = a_look (record { word = word; folder = text_among (codes "FOLDER") rows })
look_or_batch None rows =
    batch_among (text_among (codes "VALUES") rows) (number_among (codes "BYTES") rows)
    (is_among (codes "HINTS") rows) (limits_among rows)

-- by the subcommand and what was found after it
abbrev pub task_among : (name : List ℕ) → List Row → Task
task_among name rows =
    if bytes_eq name (codes "serve") then a_service (service_among rows)
    else if bytes_eq name (codes "repl") then a_prompt (prompt_among rows)
    else if bytes_eq name (codes "keys") then some_keys (keys_among rows)
    else if bytes_eq name (codes "control") then a_request (text_among (codes "PATH") rows)
    else if bytes_eq name (codes "grade") then a_grading (grading_among rows)
    else look_or_batch (word_named name) rows

abbrev pub task_in : Option (List ℕ × List Row) → Task
task_in None = a_batch (record { heap = None; is_hinted = false; limits = no_limits })
task_in (Some p) = task_among p.0 p.1

abbrev pub task_of : List (List ℕ) → Task
task_of words = task_in (subcommand_of (reader_of words) (words_read words))
