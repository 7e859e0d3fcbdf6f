-- The task of the command line, as the code has it.
use Rattle.std.specs.Prelude.{ℕ, List, Option, map, option_map}
use Rattle.nesl_words.specs.declared.words.Task.{Task as Code}
use Rattle.nesl_words.specs.declared.words.Task.TheVariants as code
use Rattle.nesl_words.specs.declared.words.Service.{Service as ServiceCode}
use Rattle.nesl_words.specs.declared.keep_words.KeepWord.{KeepWord as WordCode}
use Rattle.nesl_words.specs.declared.keep_words.KeepWord.TheVariants as word_code
use Rattle.nesl_words.specs.declared.words.BatchWords.{BatchWords as BatchCode}
use Rattle.nesl_words.specs.declared.words.CostsWords.{CostsWords as CostsCode}
use Rattle.nesl_words.specs.declared.words.PromptWords.{PromptWords as PromptCode}
use Rattle.nesl_words.specs.declared.words.NewKeys.{NewKeys as NewKeysCode}
use Rattle.nesl_words.specs.declared.words.Wanted.{Wanted}
use Rattle.nesl_words.specs.declared.limit_words.LimitWords.{LimitWords as LimitWordsCode}
use Rattle.nesl_words.specs.declared.control_words.OperatorWords.{OperatorWords as OperatorWordsCode}
use Rattle.nesl_words.specs.declared.grade_words.Grading.{Grading as GradingCode}
use Rattle.nesl_words.specs.declared.grade_words.Report.{Report as ReportCode}
use Rattle.nesl_words.specs.declared.grade_words.Report.TheVariants as report_code
use Rattle.nesl_words.specs.Words.{Task, a_batch, some_costs, a_service, a_prompt, a_look, some_keys, a_request}
use Rattle.nesl_words.specs.Words.{Batch, Costs, LimitWords, NewKeys, OperatorWords, Prompt, Service}
use Rattle.nesl_words.specs.Words.{Grading, Report, a_grading, as_table, as_csv, as_json, as_junit}
use Rattle.nesl_words.specs.Words.{KeepWord, checks, shows, renews, tabulates}

-- the limits
abbrev pub limits_wanted : LimitWordsCode → LimitWords
limits_wanted limits = record {
  line_work = limits.line_work;
  session_work = limits.session_work;
  elements = limits.elements;
  transcript_lines = limits.transcript_lines;
  transcript_bytes = limits.transcript_bytes;
}

-- the batch, its costs, and the prompt
abbrev pub batch_wanted : BatchCode → Batch
batch_wanted batch = record {
  heap = batch.heap;
  is_hinted = batch.is_hinted;
  limits = limits_wanted batch.limits;
}

abbrev pub costs_wanted : CostsCode → Costs
costs_wanted costs = record {
  values = costs.values.now;
  heap = costs.heap;
  limits = limits_wanted costs.limits;
}

abbrev pub prompt_wanted : PromptCode → Prompt
prompt_wanted prompt = record {
  is_hinted = prompt.is_hinted;
  has_files = prompt.has_files;
  limits = limits_wanted prompt.limits;
}

-- what an operator reaches
abbrev pub operator_wanted : OperatorWordsCode → OperatorWords
operator_wanted words = record {
  control = option_map (λ path. path.now) words.control;
  metrics = words.metrics;
  log_file = option_map (λ file. file.now) words.log_file;
}

-- the service
abbrev pub service_wanted : ServiceCode → Service
service_wanted service = record {
  port = service.port;
  workers = service.workers;
  connections = service.connections;
  web = service.web;
  web_host = option_map (λ name. name.now) service.web_host;
  lessons = option_map (λ folder. folder.now) service.lessons;
  idle = service.idle;
  first_line = service.first_line;
  is_logged = service.is_logged;
  stats = option_map (λ file. file.now) service.stats;
  keep = option_map (λ folder. folder.now) service.keep;
  keys = option_map (λ file. file.now) service.keys;
  user_header = option_map (λ name. name.now) service.user_header;
  bind = option_map (λ address. address.now) service.bind;
  limits = limits_wanted service.limits;
  users = option_map (λ file. file.now) service.users;
  is_check = service.is_check;
  operator = operator_wanted service.operator;
}

-- the keys
abbrev pub keys_wanted : NewKeysCode → NewKeys
keys_wanted keys = record {
  file = option_map (λ file. file.now) keys.file;
  is_renewed = keys.is_renewed;
  page = option_map (λ page. page.now) keys.page;
}

-- what is done with kept sessions
abbrev pub word_wanted : WordCode → KeepWord
word_wanted word_code.Check = checks
word_wanted word_code.Show = shows
word_wanted word_code.Renew = renews
word_wanted word_code.Csv = tabulates

abbrev pub option_word : Option WordCode → Option KeepWord
option_word word = option_map word_wanted word

-- how grades are written
abbrev pub report_wanted : ReportCode → Report
report_wanted report_code.Table = as_table
report_wanted report_code.Csv = as_csv
report_wanted report_code.Json = as_json
report_wanted report_code.Junit = as_junit

-- the grading
abbrev pub grading_wanted : GradingCode → Grading
grading_wanted grading = record {
  exercise = option_map (λ exercise. exercise.now) grading.exercise;
  report = report_wanted grading.report;
  html = option_map (λ folder. folder.now) grading.html;
  kept = option_map (λ folder. folder.now) grading.kept;
  jobs = grading.jobs;
  is_try = grading.is_try;
}

-- what is to be done
abbrev pub task_wanted : Code → Task
task_wanted (code.Batch batch) = a_batch (batch_wanted batch)
task_wanted (code.Costs costs) = some_costs (costs_wanted costs)
task_wanted (code.Service service) = a_service (service_wanted service)
task_wanted (code.Keys keys) = some_keys (keys_wanted keys)
task_wanted (code.Prompt prompt) = a_prompt (prompt_wanted prompt)
task_wanted (code.Keep keep) =
    a_look (record { word = word_wanted keep.word; folder = option_map (λ folder. folder.now) keep.folder })
task_wanted (code.Request path) = a_request (option_map (λ path. path.now) path)
task_wanted (code.Grade grading) = a_grading (grading_wanted grading)

-- the users, in order
abbrev pub users_wanted : Wanted → List (List ℕ)
users_wanted wanted = map (λ user. user.now) wanted.users.items
