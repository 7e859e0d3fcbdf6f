-- The subcommands of the program and their options, in clap's terms.
use Rattle.std.specs.Prelude.{◌≡◌, refl, ℕ, true, List, [], ◌∷◌, Some, codes, false}
use Rattle.clap.specs.Lexer.{usize_max}
use Rattle.clap.specs.Simple.{App, Shape, new_rule, new_shape, new_app, on_top, with_subcommand}
use Rattle.clap.specs.Walk.{Rule}
use Rattle.clap.specs.Faults.{is_simple_and_free}
use Rattle.clap.specs.declared.builder.action.ArgAction.TheVariants.{Set, SetTrue, Append}
use Rattle.clap.specs.declared.builder.value_parser.ValueParser.TheVariants as vp

-- an option `--long NAME`: a number from `least` to `most`, at most once
abbrev pub number_rule : (name long : List ℕ) (least most : ℕ) → Rule
number_rule name long least most = record (new_rule name) {
  long = Some long;
  action = Some Set;
  parser = Some (vp.Unsigned least most);
}

-- an option `--long NAME`: a text, at most once
abbrev pub text_rule : (name long : List ℕ) → Rule
text_rule name long = record (new_rule name) {
  long = Some long;
  action = Some Set;
}

-- `--heap BYTES`: a number from 16 to 1073741824, at most once
abbrev pub heap_rule : Rule
heap_rule = number_rule (codes "BYTES") (codes "heap") 16 1073741824

-- one or more users
abbrev pub users_rule : Rule
users_rule = record (new_rule (codes "USER")) {
  action = Some Append;
  range = Some (record { start_inclusive = 1; end_inclusive = usize_max });
  required = true;
}

-- `--csv VALUES`: a text, at most once
abbrev pub csv_rule : Rule
csv_rule = text_rule (codes "VALUES") (codes "csv")

-- `--hints`, at most once
abbrev pub hints_rule : Rule
hints_rule = record (new_rule (codes "HINTS")) {
  long = Some (codes "hints");
  action = Some SetTrue;
}

-- `--line-work WORK`: a number from 1 to 10^9, at most once
abbrev pub line_work_rule : Rule
line_work_rule = record (number_rule (codes "LINE_WORK") (codes "line-work") 1 1000000000) { value_names = 1 }

-- `--session-work WORK`: a number from 10^8 to 10^15, at most once
abbrev pub session_work_rule : Rule
session_work_rule =
    record (number_rule (codes "SESSION_WORK") (codes "session-work") 100000000 1000000000000000) { value_names = 1 }

-- `--elements COUNT`: a number from 1 to 10^9, at most once
abbrev pub elements_rule : Rule
elements_rule = record (number_rule (codes "ELEMENTS") (codes "elements") 1 1000000000) { value_names = 1 }

-- `--transcript-lines COUNT`: a number from 1 to 10^6, at most once
abbrev pub transcript_lines_rule : Rule
transcript_lines_rule =
    record (number_rule (codes "LINES") (codes "transcript-lines") 1 1000000) { value_names = 1 }

-- `--transcript-bytes BYTES`: a number from 1 to 2^30, at most once
abbrev pub transcript_bytes_rule : Rule
transcript_bytes_rule =
    record (number_rule (codes "LINE_BYTES") (codes "transcript-bytes") 1 1073741824) { value_names = 1 }

-- the subcommand `batch [--heap BYTES] [--csv VALUES] [--hints] [--line-work WORK] [--session-work WORK]
-- [--elements COUNT] [--transcript-lines COUNT] [--transcript-bytes BYTES] USER..`
abbrev pub batch : Shape
batch = record (new_shape (codes "batch")) {
  rules = heap_rule ∷ csv_rule ∷ hints_rule ∷ line_work_rule ∷ session_work_rule ∷ elements_rule
      ∷ transcript_lines_rule ∷ transcript_bytes_rule ∷ users_rule ∷ [];
}

-- `--files`, at most once
abbrev pub files_rule : Rule
files_rule = record (new_rule (codes "FILES")) {
  long = Some (codes "files");
  action = Some SetTrue;
}

-- the subcommand `repl [--hints] [--files] [--line-work WORK] [--session-work WORK] [--elements COUNT]
-- [--transcript-lines COUNT] [--transcript-bytes BYTES]`
abbrev pub repl : Shape
repl = record (new_shape (codes "repl")) {
  rules = hints_rule ∷ files_rule ∷ line_work_rule ∷ session_work_rule ∷ elements_rule ∷ transcript_lines_rule
      ∷ transcript_bytes_rule ∷ [];
}

-- `--port P`: a number from 0 to 65535, once
abbrev pub port_rule : Rule
port_rule = record (number_rule (codes "PORT") (codes "port") 0 65535) { required = true }

-- `--workers W`: a number from 0 to 64, once
abbrev pub workers_rule : Rule
workers_rule = record (number_rule (codes "WORKERS") (codes "workers") 0 64) { required = true }

-- `--connections N`: a number from 1 to 1000000, at most once
abbrev pub connections_rule : Rule
connections_rule = number_rule (codes "CONNECTIONS") (codes "connections") 1 1000000

-- `--web PORT`: a number from 0 to 65535, at most once; its value has another name in help than its id, as below
abbrev pub web_rule : Rule
web_rule = record (number_rule (codes "WEB") (codes "web") 0 65535) { value_names = 1 }

-- `--web-host NAME`: a text, at most once
abbrev pub web_host_rule : Rule
web_host_rule = record (text_rule (codes "HOST") (codes "web-host")) { value_names = 1 }

-- `--lessons FOLDER`: a text, at most once
abbrev pub lessons_rule : Rule
lessons_rule = record (text_rule (codes "LESSONS") (codes "lessons")) { value_names = 1 }

-- `--idle SECONDS`: a number from 1 to 86400, at most once
abbrev pub idle_rule : Rule
idle_rule = number_rule (codes "SECONDS") (codes "idle") 1 86400

-- `--first-line SECONDS`: a number from 1 to 86400, at most once
abbrev pub first_line_rule : Rule
first_line_rule = record (number_rule (codes "FIRST") (codes "first-line") 1 86400) { value_names = 1 }

-- `--log`, at most once
abbrev pub log_rule : Rule
log_rule = record (new_rule (codes "LOG")) {
  long = Some (codes "log");
  action = Some SetTrue;
}

-- `--stats FILE`: a text, at most once
abbrev pub stats_rule : Rule
stats_rule = text_rule (codes "FILE") (codes "stats")

-- `--keep FOLDER`: a text, at most once
abbrev pub keep_rule : Rule
keep_rule = text_rule (codes "FOLDER") (codes "keep")

-- `--keys FILE`: a text, at most once
abbrev pub keys_file_rule : Rule
keys_file_rule = record (text_rule (codes "KEYS") (codes "keys")) { value_names = 1 }

-- `--user-header NAME`: a text, at most once
abbrev pub user_header_rule : Rule
user_header_rule = record (text_rule (codes "HEADER") (codes "user-header")) { value_names = 1 }

-- `--bind ADDRESS`: a text, at most once
abbrev pub bind_rule : Rule
bind_rule = record (text_rule (codes "BIND") (codes "bind")) { value_names = 1 }

-- `--users FILE`: a text, at most once
abbrev pub users_file_rule : Rule
users_file_rule = record (text_rule (codes "USERS") (codes "users")) { value_names = 1 }

-- `--check`, at most once
abbrev pub check_rule : Rule
check_rule = record (new_rule (codes "CHECK")) {
  long = Some (codes "check");
  action = Some SetTrue;
}

-- `--control PATH`: a text, at most once
abbrev pub control_rule : Rule
control_rule = record (text_rule (codes "CONTROL") (codes "control")) { value_names = 1 }

-- `--metrics PORT`: a number from 0 to 65535, at most once
abbrev pub metrics_rule : Rule
metrics_rule = record (number_rule (codes "METRICS") (codes "metrics") 0 65535) { value_names = 1 }

-- `--log-file FILE`: a text, at most once
abbrev pub log_file_rule : Rule
log_file_rule = record (text_rule (codes "LOG_FILE") (codes "log-file")) { value_names = 1 }

-- any number of users
abbrev pub further_users_rule : Rule
further_users_rule = record users_rule { required = false }

-- the subcommand `serve --port P --workers W [--connections N] [--web PORT] [--web-host NAME] [--lessons FOLDER]
-- [--idle SECONDS] [--first-line SECONDS] [--log] [--stats FILE] [--keep FOLDER] [--keys FILE] [--user-header NAME]
-- [--bind ADDRESS] [--line-work WORK] [--session-work WORK] [--elements COUNT] [--transcript-lines COUNT]
-- [--transcript-bytes BYTES] [--users FILE] [--check] [--control PATH] [--metrics PORT] [--log-file FILE] [USER..]`
abbrev pub serve : Shape
serve = record (new_shape (codes "serve")) {
  rules = port_rule ∷ workers_rule ∷ connections_rule ∷ web_rule ∷ web_host_rule ∷ lessons_rule ∷ idle_rule
      ∷ first_line_rule ∷ log_rule ∷ stats_rule ∷ keep_rule ∷ keys_file_rule ∷ user_header_rule ∷ bind_rule
      ∷ line_work_rule ∷ session_work_rule ∷ elements_rule ∷ transcript_lines_rule ∷ transcript_bytes_rule
      ∷ users_file_rule ∷ check_rule ∷ control_rule ∷ metrics_rule ∷ log_file_rule ∷ further_users_rule ∷ [];
}

-- `--out FILE`: a text, once
abbrev pub out_rule : Rule
out_rule = record (text_rule (codes "FILE") (codes "out")) { required = true }

-- `--renew`, at most once
abbrev pub renew_rule : Rule
renew_rule = record (new_rule (codes "RENEW")) {
  long = Some (codes "renew");
  action = Some SetTrue;
}

-- `--page ADDRESS`: a text, at most once
abbrev pub page_rule : Rule
page_rule = text_rule (codes "ADDRESS") (codes "page")

-- the subcommand `keys --out FILE [--renew] [--page ADDRESS] USER..`
abbrev pub keys : Shape
keys = record (new_shape (codes "keys")) { rules = out_rule ∷ renew_rule ∷ page_rule ∷ users_rule ∷ [] }

-- `PATH`: a text that isn't empty, once
abbrev pub path_rule : Rule
path_rule = record (new_rule (codes "PATH")) {
  action = Some Set;
  parser = Some vp.NonEmptyString;
  required = true;
}

-- one or more words for an operator's request, which are read as users are
abbrev pub request_rule : Rule
request_rule = record users_rule { value_names = 1 }

-- the subcommand `control PATH WORD..`
abbrev pub control : Shape
control = record (new_shape (codes "control")) { rules = path_rule ∷ request_rule ∷ [] }

-- the subcommand `keep` of the program's help; its words are read by a command of its own
abbrev pub keep : Shape
keep = new_shape (codes "keep")

-- `--csv`, `--json` and `--junit`, each at most once
abbrev pub csv_report_rule : Rule
csv_report_rule = record (new_rule (codes "CSV")) {
  long = Some (codes "csv");
  action = Some SetTrue;
}

abbrev pub json_report_rule : Rule
json_report_rule = record (new_rule (codes "JSON")) {
  long = Some (codes "json");
  action = Some SetTrue;
}

abbrev pub junit_report_rule : Rule
junit_report_rule = record (new_rule (codes "JUNIT")) {
  long = Some (codes "junit");
  action = Some SetTrue;
}

-- `--html FOLDER`: a text, at most once
abbrev pub html_rule : Rule
html_rule = record (text_rule (codes "HTML") (codes "html")) { value_names = 1 }

-- `--kept FOLDER`: a text, at most once
abbrev pub kept_rule : Rule
kept_rule = record (text_rule (codes "KEPT") (codes "kept")) { value_names = 1 }

-- `--jobs JOBS`: a number from 1 to 64, at most once
abbrev pub jobs_rule : Rule
jobs_rule = number_rule (codes "JOBS") (codes "jobs") 1 64

-- `--try`, at most once
abbrev pub try_rule : Rule
try_rule = record (new_rule (codes "TRY")) {
  long = Some (codes "try");
  action = Some SetTrue;
}

-- `EXERCISE`: a text that isn't empty, once
abbrev pub exercise_rule : Rule
exercise_rule = record (new_rule (codes "EXERCISE")) {
  action = Some Set;
  parser = Some vp.NonEmptyString;
  required = true;
}

-- any number of submissions, which are found as users are
abbrev pub submissions_rule : Rule
submissions_rule = record further_users_rule { value_names = 1 }

-- the subcommand `grade` with its options, EXERCISE, and any number of submissions
abbrev pub grade : Shape
grade = record (new_shape (codes "grade")) {
  rules = csv_report_rule ∷ json_report_rule ∷ junit_report_rule ∷ html_rule ∷ kept_rule ∷ jobs_rule ∷ try_rule
      ∷ exercise_rule ∷ submissions_rule ∷ [];
}

-- the program before its subcommands: one is required, help is shown where there are no words, and it has a version
abbrev pub without_subcommands : App
without_subcommands = on_top
    (λ s. record s { subcommand_required = true; arg_required_else_help = true; has_version = true })
    (new_app (codes "pazkindu"))

-- the program
abbrev pub program : App
program =
    with_subcommand
    (with_subcommand
    (with_subcommand
    (with_subcommand (with_subcommand (with_subcommand (with_subcommand without_subcommands batch) serve) repl) keys)
    control)
    keep)
    grade

-- `FOLDER`: a text that isn't empty, once
abbrev pub folder_rule : Rule
folder_rule = record (new_rule (codes "FOLDER")) {
  action = Some Set;
  parser = Some vp.NonEmptyString;
  required = true;
}

-- `[USER]`: a user, at most once
abbrev pub one_user_rule : Rule
one_user_rule = record (new_rule (codes "USER")) { action = Some Set }

-- `USER`: a user, once
abbrev pub user_rule : Rule
user_rule = record one_user_rule { required = true }

-- `check FOLDER [USER]`
abbrev pub check : Shape
check = record (new_shape (codes "check")) { rules = folder_rule ∷ one_user_rule ∷ [] }

-- `show FOLDER USER`
abbrev pub show : Shape
show = record (new_shape (codes "show")) { rules = folder_rule ∷ user_rule ∷ [] }

-- `renew FOLDER USER`
abbrev pub renew : Shape
renew = record (new_shape (codes "renew")) { rules = folder_rule ∷ user_rule ∷ [] }

-- `csv FOLDER [USER]`
abbrev pub csv_of_kept : Shape
csv_of_kept = record (new_shape (codes "csv")) { rules = folder_rule ∷ one_user_rule ∷ [] }

-- `keep` before its commands: one is required, and help is shown where there are no words
abbrev pub keep_without_commands : App
keep_without_commands = on_top
    (λ s. record s { subcommand_required = true; arg_required_else_help = true })
    (new_app (codes "keep"))

-- `keep`, which reads the words after the program's name
abbrev pub keep_program : App
keep_program =
    with_subcommand (with_subcommand (with_subcommand (with_subcommand keep_without_commands check) show) renew)
    csv_of_kept

-- clap finds all matches and all faults of such commands
pub program_is_simple : is_simple_and_free program ≡ true
program_is_simple = refl

pub keep_is_simple : is_simple_and_free keep_program ≡ true
keep_is_simple = refl
