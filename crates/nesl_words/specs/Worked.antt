-- Command lines, and what they ask for.
use Rattle.std.specs.Prelude.{◌≡◌, refl, ℕ, true, List, [], ◌∷◌, Some, None, codes, false}
use Rattle.clap.specs.Walk.{walked}
use Rattle.clap.specs.Faults.{walk_fault, defaults_fault}
use Rattle.clap.specs.declared.error.kind.ErrorKind.TheVariants as kind
use Rattle.nesl_words.specs.Words.{faults_of, users_of, OperatorWords, task_of, checks, shows, renews}
use Rattle.nesl_words.specs.Words.{tabulates, as_csv, a_batch, some_costs, a_service, a_prompt, a_look, some_keys}
use Rattle.nesl_words.specs.Words.{a_request, a_grading, no_limits}

-- Batches: two users; no heap, a heap, and one that is too small; costs, and the option twice; hints; limits; users
-- after `--`. Services: one that ends and one that doesn't; one with keys and limits, and one for an operator;
-- without a port, with too many workers, and with no second for the first line. Prompts: alone, with hints, with files, with limits, and with one that is too small,
-- and with a user, which is refused. Kept sessions: all are checked, one is checked, shown, begun anew and written as
-- CSV; no folder, no user, and an unknown word. Keys: new ones, a renewed one, and without a file. Requests: one, and none. Gradings: submissions, all
-- options, and no exercise. Others: no word, no user, an unknown subcommand, and calls for help and for the version.
abbrev no_operator : OperatorWords
no_operator = record { control = None; metrics = None; log_file = None }

abbrev pub asked : List (List ℕ) → List (List ℕ)
asked words = codes "pazkindu" ∷ words

two_users : users_of (asked (codes "batch" ∷ codes "ann" ∷ codes "bob" ∷ [])) ≡ codes "ann" ∷ codes "bob" ∷ []
unfolding walked
two_users = refl

no_fault : faults_of (asked (codes "batch" ∷ codes "ann" ∷ codes "bob" ∷ [])) ≡ []
unfolding walked walk_fault defaults_fault
no_fault = refl

no_heap :
    task_of (asked (codes "batch" ∷ codes "ann" ∷ []))
    ≡ a_batch (record { heap = None; is_hinted = false; limits = no_limits })
unfolding walked
no_heap = refl

with_heap :
    task_of (asked (codes "batch" ∷ codes "--heap" ∷ codes "65536" ∷ codes "ann" ∷ []))
    ≡ a_batch (record { heap = Some 65536; is_hinted = false; limits = no_limits })
unfolding walked
with_heap = refl

users_with_heap : users_of (asked (codes "batch" ∷ codes "ann" ∷ codes "--heap=65536" ∷ [])) ≡ codes "ann" ∷ []
unfolding walked
users_with_heap = refl

small_heap :
    faults_of (asked (codes "batch" ∷ codes "--heap" ∷ codes "15" ∷ codes "ann" ∷ []))
    ≡ kind.ValueValidation ∷ []
unfolding walked walk_fault defaults_fault
small_heap = refl

with_values :
    task_of (asked (codes "batch" ∷ codes "ann" ∷ codes "--csv=1,2,4" ∷ []))
    ≡ some_costs (record { values = codes "1,2,4"; heap = None; limits = no_limits })
unfolding walked
with_values = refl

values_twice :
    faults_of (asked (codes "batch" ∷ codes "--csv" ∷ codes "1" ∷ codes "--csv" ∷ codes "2" ∷ codes "ann" ∷ []))
    ≡ kind.ArgumentConflict ∷ []
unfolding walked walk_fault defaults_fault
values_twice = refl

with_hints :
    task_of (asked (codes "batch" ∷ codes "--hints" ∷ codes "ann" ∷ []))
    ≡ a_batch (record { heap = None; is_hinted = true; limits = no_limits })
unfolding walked
with_hints = refl

batch_with_limits :
    task_of
    (asked (codes "batch" ∷ codes "--line-work=2000000" ∷ codes "ann" ∷ codes "--transcript-lines" ∷ codes "20" ∷ []))
    ≡ a_batch (record {
      heap = None;
      is_hinted = false;
      limits = record no_limits { line_work = Some 2000000; transcript_lines = Some 20 };
    })
unfolding walked
batch_with_limits = refl

behind_dashes : users_of (asked (codes "batch" ∷ codes "--" ∷ codes "-x" ∷ [])) ≡ codes "-x" ∷ []
unfolding walked
behind_dashes = refl

no_word : faults_of (asked []) ≡ kind.DisplayHelpOnMissingArgumentOrSubcommand ∷ []
unfolding walked walk_fault defaults_fault
no_word = refl

no_user : faults_of (asked (codes "batch" ∷ [])) ≡ kind.MissingRequiredArgument ∷ []
unfolding walked walk_fault defaults_fault
no_user = refl

served_twice :
    task_of (asked (codes "serve" ∷ codes "--port" ∷ codes "0" ∷ codes "--workers" ∷ codes "4" ∷ codes "--connections"
    ∷ codes "2" ∷ codes "ann" ∷ []))
    ≡ a_service (record {
      port = Some 0;
      workers = Some 4;
      connections = Some 2;
      web = None;
      web_host = None;
      lessons = None;
      idle = None;
      first_line = None;
      is_logged = false;
      stats = None;
      keep = None;
      keys = None;
      user_header = None;
      bind = None;
      limits = no_limits;
      users = None;
      is_check = false;
      operator = no_operator;
    })
unfolding walked
served_twice = refl

served_on :
    task_of
    (asked (codes "serve" ∷ codes "--workers=0" ∷ codes "--idle=60" ∷ codes "ann" ∷ codes "--log" ∷ codes "--port=4000"
    ∷ codes "--web=8080" ∷ codes "--web-host" ∷ codes "nesl.example" ∷ codes "--lessons=course" ∷ codes "--first-line=5" ∷ codes "--stats"
    ∷ codes "counters" ∷ codes "--keep=sessions" ∷ []))
    ≡ a_service (record {
      port = Some 4000;
      workers = Some 0;
      connections = None;
      web = Some 8080;
      web_host = Some (codes "nesl.example");
      lessons = Some (codes "course");
      idle = Some 60;
      first_line = Some 5;
      is_logged = true;
      stats = Some (codes "counters");
      keep = Some (codes "sessions");
      keys = None;
      user_header = None;
      bind = None;
      limits = no_limits;
      users = None;
      is_check = false;
      operator = no_operator;
    })
unfolding walked
served_on = refl

served_by_keys :
    task_of
    (asked (codes "serve" ∷ codes "--port=0" ∷ codes "--workers=2" ∷ codes "--keys" ∷ codes "class.keys"
    ∷ codes "--web=0" ∷ codes "--user-header=X-Remote-User" ∷ codes "--session-work=1000000000" ∷ codes "--elements"
    ∷ codes "5000" ∷ codes "--bind=192.0.2.7" ∷ codes "--users=class" ∷ codes "--check" ∷ []))
    ≡ a_service (record {
      port = Some 0;
      workers = Some 2;
      connections = None;
      web = Some 0;
      web_host = None;
      lessons = None;
      idle = None;
      first_line = None;
      is_logged = false;
      stats = None;
      keep = None;
      keys = Some (codes "class.keys");
      user_header = Some (codes "X-Remote-User");
      bind = Some (codes "192.0.2.7");
      limits = record no_limits { session_work = Some 1000000000; elements = Some 5000 };
      users = Some (codes "class");
      is_check = true;
      operator = no_operator;
    })
unfolding walked
served_by_keys = refl

operated :
    task_of
    (asked (codes "serve" ∷ codes "--port=0" ∷ codes "--workers=2" ∷ codes "--control" ∷ codes "run/socket"
    ∷ codes "--metrics=9100" ∷ codes "--log-file=class.log" ∷ codes "ann" ∷ []))
    ≡ a_service (record {
      port = Some 0;
      workers = Some 2;
      connections = None;
      web = None;
      web_host = None;
      lessons = None;
      idle = None;
      first_line = None;
      is_logged = false;
      stats = None;
      keep = None;
      keys = None;
      user_header = None;
      bind = None;
      limits = no_limits;
      users = None;
      is_check = false;
      operator = record {
        control = Some (codes "run/socket");
        metrics = Some 9100;
        log_file = Some (codes "class.log");
      };
    })
unfolding walked
operated = refl

no_port :
    faults_of (asked (codes "serve" ∷ codes "--workers" ∷ codes "4" ∷ codes "ann" ∷ []))
    ≡ kind.MissingRequiredArgument ∷ []
unfolding walked walk_fault defaults_fault
no_port = refl

many_workers :
    faults_of
    (asked (codes "serve" ∷ codes "--port" ∷ codes "0" ∷ codes "--workers" ∷ codes "65" ∷ codes "ann" ∷ []))
    ≡ kind.ValueValidation ∷ []
unfolding walked walk_fault defaults_fault
many_workers = refl

no_second :
    faults_of
    (asked (codes "serve" ∷ codes "--port=0" ∷ codes "--workers=4" ∷ codes "--first-line=0" ∷ codes "ann" ∷ []))
    ≡ kind.ValueValidation ∷ []
unfolding walked walk_fault defaults_fault
no_second = refl

at_prompt :
    task_of (asked (codes "repl" ∷ []))
    ≡ a_prompt (record { is_hinted = false; has_files = false; limits = no_limits })
unfolding walked
at_prompt = refl

prompt_with_hints :
    task_of (asked (codes "repl" ∷ codes "--hints" ∷ []))
    ≡ a_prompt (record { is_hinted = true; has_files = false; limits = no_limits })
unfolding walked
prompt_with_hints = refl

prompt_with_files :
    task_of (asked (codes "repl" ∷ codes "--files" ∷ []))
    ≡ a_prompt (record { is_hinted = false; has_files = true; limits = no_limits })
unfolding walked
prompt_with_files = refl

prompt_with_limits :
    task_of (asked (codes "repl" ∷ codes "--elements=5000" ∷ codes "--session-work" ∷ codes "1000000000" ∷ []))
    ≡ a_prompt (record {
      is_hinted = false;
      has_files = false;
      limits = record no_limits { session_work = Some 1000000000; elements = Some 5000 };
    })
unfolding walked
prompt_with_limits = refl

little_session_work :
    faults_of (asked (codes "repl" ∷ codes "--session-work=99999999" ∷ [])) ≡ kind.ValueValidation ∷ []
unfolding walked walk_fault defaults_fault
little_session_work = refl

prompt_for_user :
    faults_of (asked (codes "repl" ∷ codes "ann" ∷ [])) ≡ kind.UnknownArgument ∷ []
unfolding walked walk_fault defaults_fault
prompt_for_user = refl

all_checked :
    task_of (asked (codes "keep" ∷ codes "check" ∷ codes "sessions" ∷ []))
    ≡ a_look (record { word = checks; folder = Some (codes "sessions") })
unfolding walked
all_checked = refl

checked_of_all : users_of (asked (codes "keep" ∷ codes "check" ∷ codes "sessions" ∷ [])) ≡ []
unfolding walked
checked_of_all = refl

checked_of_one :
    users_of (asked (codes "keep" ∷ codes "check" ∷ codes "sessions" ∷ codes "ann" ∷ [])) ≡ codes "ann" ∷ []
unfolding walked
checked_of_one = refl

shown_of_one :
    task_of (asked (codes "keep" ∷ codes "show" ∷ codes "sessions" ∷ codes "ann" ∷ []))
    ≡ a_look (record { word = shows; folder = Some (codes "sessions") })
unfolding walked
shown_of_one = refl

renewed :
    task_of (asked (codes "keep" ∷ codes "renew" ∷ codes "sessions" ∷ codes "ann" ∷ []))
    ≡ a_look (record { word = renews; folder = Some (codes "sessions") })
unfolding walked
renewed = refl

tabulated :
    task_of (asked (codes "keep" ∷ codes "csv" ∷ codes "sessions" ∷ []))
    ≡ a_look (record { word = tabulates; folder = Some (codes "sessions") })
unfolding walked
tabulated = refl

no_folder : faults_of (asked (codes "keep" ∷ codes "check" ∷ [])) ≡ kind.MissingRequiredArgument ∷ []
unfolding walked walk_fault defaults_fault
no_folder = refl

nobody_shown :
    faults_of (asked (codes "keep" ∷ codes "show" ∷ codes "sessions" ∷ [])) ≡ kind.MissingRequiredArgument ∷ []
unfolding walked walk_fault defaults_fault
nobody_shown = refl

unknown_word :
    faults_of (asked (codes "keep" ∷ codes "list" ∷ codes "sessions" ∷ []))
    ≡ kind.UnknownArgument ∷ kind.InvalidSubcommand ∷ []
unfolding walked walk_fault defaults_fault
unknown_word = refl

new_keys :
    task_of (asked (codes "keys" ∷ codes "--out" ∷ codes "class.keys" ∷ codes "ann" ∷ codes "bob" ∷ []))
    ≡ some_keys (record { file = Some (codes "class.keys"); is_renewed = false; page = None })
unfolding walked
new_keys = refl

renewed_key :
    task_of
    (asked (codes "keys" ∷ codes "--out=class.keys" ∷ codes "--page" ∷ codes "http://nesl.example/" ∷ codes "--renew"
    ∷ codes "ann" ∷ []))
    ≡ some_keys (record {
      file = Some (codes "class.keys");
      is_renewed = true;
      page = Some (codes "http://nesl.example/");
    })
unfolding walked
renewed_key = refl

no_file :
    faults_of (asked (codes "keys" ∷ codes "ann" ∷ [])) ≡ kind.MissingRequiredArgument ∷ []
unfolding walked walk_fault defaults_fault
no_file = refl

requested :
    task_of (asked (codes "control" ∷ codes "run/socket" ∷ codes "end" ∷ codes "ann" ∷ []))
    ≡ a_request (Some (codes "run/socket"))
unfolding walked
requested = refl

requested_words :
    users_of (asked (codes "control" ∷ codes "run/socket" ∷ codes "end" ∷ codes "ann" ∷ []))
    ≡ codes "end" ∷ codes "ann" ∷ []
unfolding walked
requested_words = refl

nothing_requested :
    faults_of (asked (codes "control" ∷ codes "run/socket" ∷ [])) ≡ kind.MissingRequiredArgument ∷ []
unfolding walked walk_fault defaults_fault
nothing_requested = refl

submissions :
    users_of (asked (codes "grade" ∷ codes "sort.md" ∷ codes "ann.nesl" ∷ codes "bob.nesl" ∷ []))
    ≡ codes "ann.nesl" ∷ codes "bob.nesl" ∷ []
unfolding walked
submissions = refl

graded_in_full :
    task_of
    (asked (codes "grade" ∷ codes "--csv" ∷ codes "sort.md" ∷ codes "--html=pages" ∷ codes "--jobs" ∷ codes "4"
    ∷ codes "--try" ∷ codes "--kept" ∷ codes "sessions" ∷ []))
    ≡ a_grading (record {
      exercise = Some (codes "sort.md");
      report = as_csv;
      html = Some (codes "pages");
      kept = Some (codes "sessions");
      jobs = Some 4;
      is_try = true;
    })
unfolding walked
graded_in_full = refl

no_exercise : faults_of (asked (codes "grade" ∷ [])) ≡ kind.MissingRequiredArgument ∷ []
unfolding walked walk_fault defaults_fault
no_exercise = refl

unknown : faults_of (asked (codes "listen" ∷ [])) ≡ kind.UnknownArgument ∷ kind.InvalidSubcommand ∷ []
unfolding walked walk_fault defaults_fault
unknown = refl

help : faults_of (asked (codes "--help" ∷ [])) ≡ kind.DisplayHelp ∷ []
unfolding walked walk_fault defaults_fault
help = refl

version : faults_of (asked (codes "--version" ∷ [])) ≡ kind.DisplayVersion ∷ []
unfolding walked walk_fault defaults_fault
version = refl
