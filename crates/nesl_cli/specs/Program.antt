-- What the program does.
use Rattle.std.specs.Prelude.{◌≡◌, ℕ, List, [], Option, Some, None, Bool, true, false, slice_get, option_map, unwrap_or}
use Rattle.std.specs.Io.KnownBytes.{Consumes, Appends}
use Rattle.nesl_session_meaning.specs.declared.limits.Limits.{Limits}
use Rattle.nesl_session_meaning.specs.State.{Log, empty_log}
use Rattle.nesl_house.specs.declared.roster.NewFault.TheVariants as refusal
use Rattle.nesl_house.specs.Roster.{IsRoster, IsRefused, new_house}
use Rattle.nesl_house.specs.Runs.{Account}
use Rattle.nesl_line.specs.Batch.{AnswersAll, IsBatch}
use Rattle.nesl_line.specs.Exchange.{Streams}
use Rattle.nesl_line.specs.Hinted.{IsHintedBatch}
use Rattle.nesl_line.specs.declared.exchange.End.{End}
use Rattle.nesl_line.specs.declared.exchange.End.TheVariants.{Input, ReadFault, WriteFault}
use Rattle.nesl_prompt.specs.Conversation.{IsPrompt}
use Rattle.nesl_prompt.specs.Points.{is_plain}
use Rattle.nesl_words.specs.Words.{Task, a_batch, some_costs, a_service, a_prompt, a_look, some_keys}
use Rattle.nesl_words.specs.Words.{a_grading, a_request}
use Rattle.nesl_words.specs.Words.{LimitWords, Prompt}
use Rattle.nesl_words.specs.Words.{users_of, task_of}
use Rattle.nesl_cli.specs.Offered.{task_handed, users_handed}
use Rattle.nesl_cli.specs.Prompted.{style_for}
use Rattle.nesl_cli.specs.declared.prompt.Terminals.{Terminals}
use Rattle.nesl_cli.specs.declared.run.Offered.{Offered}
use Rattle.nesl_cli.specs.declared.failure.Failure.{Failure}
use Rattle.nesl_cli.specs.declared.failure.Failure.TheVariants.{Read, Write, Memory, Serve}
use Rattle.nesl_cli.specs.declared.failure.Failure.TheVariants.{Count, Name, Twice, Encoding}
use Rattle.nesl_cli.specs.declared.failure.Failure.TheVariants.{Costs, Value, Taken, Stats, Folder, Kept}
use Rattle.nesl_cli.specs.declared.failure.Failure.TheVariants.{Keys, NoKeys, KeysMemory, NoPage, KeptLimits}
use Rattle.nesl_cli.specs.declared.failure.Failure.TheVariants.{Users, Lessons, NoUsers, Open, Address}
use Rattle.nesl_cli.specs.declared.failure.Failure.TheVariants.{Socket, Request, RequestMemory}
use Rattle.nesl_cli.specs.declared.failure.Failure.TheVariants as failed_as
use Rattle.nesl_cli.specs.declared.prompt.PromptFault.TheVariants as prompt_fault
use Rattle.nesl_cli.specs.Failures.{prompt_failure_of}

-- the limits of each session, unless a service has others
abbrev pub limits : Limits
limits = record {
  line_work = 1000000;
  session_work = 100000000;
  elements = 100000;
  transcript_lines = 10000;
  transcript_bytes = 1048576;
}

-- the limits of each session, where these are given by words
abbrev pub limits_by : LimitWords → Limits
limits_by words = record {
  line_work = unwrap_or words.line_work limits.line_work;
  session_work = unwrap_or words.session_work limits.session_work;
  elements = unwrap_or words.elements limits.elements;
  transcript_lines = unwrap_or words.transcript_lines limits.transcript_lines;
  transcript_bytes = unwrap_or words.transcript_bytes limits.transcript_bytes;
}

-- a batch, with hints below its answers if `is_hinted`
abbrev pub Batched
    : (is_hinted : Bool) → End → ℕ → (left left' held held' : Option (List ℕ)) → (house house' : List Account) → Type 0
Batched false end count left left' held held' house house' =
    IsBatch house house' end count (record { left = left; left_after = left'; held = held; held_after = held' })
Batched true end count left left' held held' house house' =
    IsHintedBatch house house' end count (record { left = left; left_after = left'; held = held; held_after = held' })

-- The users are a roster. A house in which each has an empty session with these limits answered the lines that were
-- read, until this end.
abbrev pub Served
    : (is_hinted : Bool) → End → Limits → (users : List (List ℕ)) → (left left' held held' : Option (List ℕ)) → Type 0
Served is_hinted end bounds users left left' held held' =
    IsRoster users
    × ((count : ℕ) × ((house : List Account)
    × Batched is_hinted end count left left' held held' (new_house bounds users) house))

-- a house in which each of these users has an empty session with these limits answered all lines of a text by these
-- replies
abbrev pub IsAnsweredAnew : Limits → (users : List (List ℕ)) → (text replies : List ℕ) → Type 0
IsAnsweredAnew bounds users text replies =
    (house : List Account) × AnswersAll (new_house bounds users) text replies house

-- a prompt over an empty session with these limits answered the lines that were read, until this end
abbrev pub Prompted : (plain : Bool) → End → Limits → (left left' held held' : Option (List ℕ)) → Type 0
Prompted plain end bounds left left' held held' =
    let streams : Streams = record { left = left; left_after = left'; held = held; held_after = held' } in
    (count : ℕ) × ((log : Log) × IsPrompt plain (empty_log bounds) log end count streams)

-- nothing was read or written
abbrev pub Untouched : Option (List ℕ) → Option (List ℕ) → Option (List ℕ) → Option (List ℕ) → Type 0
Untouched left left' held held' = Consumes left left' [] × Appends held held' []

-- the users are refused, for the name at this place
abbrev pub IsBlamed : (ℕ → Type 0) → List (List ℕ) → List ℕ → Type 0
IsBlamed RefusedAt users name = (place : ℕ) × RefusedAt place × (slice_get users place ≡ Some name)

-- Why a batch for these users failed, and what it had read and written. Words that are not UTF-8 never lead to a batch.
-- Nothing is claimed of costs that failed.
abbrev pub BatchFails
    : Failure → (is_hinted : Bool) → Limits → (users : List (List ℕ)) → (left left' held held' : Option (List ℕ))
    → Type 0
BatchFails Read is_hinted bounds users left left' held held' =
    Served is_hinted ReadFault bounds users left left' held held'
BatchFails Write is_hinted bounds users left left' held held' =
    Served is_hinted WriteFault bounds users left left' held held'
BatchFails Memory is_hinted bounds users left left' held held' = Untouched left left' held held'
BatchFails (Serve fault) is_hinted bounds users left left' held held' = ⊥
BatchFails Encoding is_hinted bounds users left left' held held' = ⊥
BatchFails (Taken port) is_hinted bounds users left left' held held' = ⊥
BatchFails (Stats file fault) is_hinted bounds users left left' held held' = ⊥
BatchFails (Folder folder fault) is_hinted bounds users left left' held held' = ⊥
BatchFails (Kept failure) is_hinted bounds users left left' held held' = ⊥
BatchFails (Keys file fault) is_hinted bounds users left left' held held' = ⊥
BatchFails (NoKeys file fault) is_hinted bounds users left left' held held' = ⊥
BatchFails KeysMemory is_hinted bounds users left left' held held' = ⊥
BatchFails NoPage is_hinted bounds users left left' held held' = ⊥
BatchFails KeptLimits is_hinted bounds users left left' held held' = ⊥
BatchFails (Users file reason) is_hinted bounds users left left' held held' = ⊥
BatchFails (Lessons folder reason) is_hinted bounds users left left' held held' = ⊥
BatchFails NoUsers is_hinted bounds users left left' held held' = ⊥
BatchFails Open is_hinted bounds users left left' held held' = ⊥
BatchFails (Address text) is_hinted bounds users left left' held held' = ⊥
BatchFails (Socket path reason) is_hinted bounds users left left' held held' = ⊥
BatchFails (Request path reason) is_hinted bounds users left left' held held' = ⊥
BatchFails RequestMemory is_hinted bounds users left left' held held' = ⊥
BatchFails (failed_as.Prompt fault) is_hinted bounds users left left' held held' = ⊥
BatchFails (Costs fault) is_hinted bounds users left left' held held' = Unit {0}
BatchFails (Value text) is_hinted bounds users left left' held held' = Untouched left left' held held'
BatchFails Count is_hinted bounds users left left' held held' =
    IsRefused users refusal.Count × Untouched left left' held held'
BatchFails (Name name) is_hinted bounds users left left' held held' =
    IsBlamed (λ place. IsRefused users (refusal.Name place)) users name.now × Untouched left left' held held'
BatchFails (Twice name) is_hinted bounds users left left' held held' =
    IsBlamed (λ place. IsRefused users (refusal.Twice place)) users name.now × Untouched left left' held held'

-- Why a prompt failed: it ended early, or memory for its session ran out, and then nothing was read or written.
pub data PromptFails
    (plain : Bool) (bounds : Limits) (failure : Failure) (left left' held held' : Option (List ℕ)) : Type 0 where
  ended :
      (end : End) → Prompted plain end bounds left left' held held'
      → option_map (λ fault. failed_as.Prompt fault) (prompt_failure_of end) ≡ Some failure
      → PromptFails plain bounds failure left left' held held'
  unopened :
      Untouched left left' held held' → failure ≡ failed_as.Prompt prompt_fault.Memory
      → PromptFails plain bounds failure left left' held held'

-- whether the prompt that is asked for writes only replies, on these terminals
abbrev pub is_plain_at : Terminals → Prompt → Bool
is_plain_at terminals prompt = is_plain (style_for terminals prompt.is_hinted)

-- why a task failed that is run here, rather than offered
abbrev pub TaskFails
    : Terminals → Task → Failure → (users : List (List ℕ)) → (left left' held held' : Option (List ℕ)) → Type 0
TaskFails terminals (a_batch batch) failure users left left' held held' =
    BatchFails failure batch.is_hinted (limits_by batch.limits) users left left' held held'
TaskFails terminals (some_costs costs) failure users left left' held held' =
    BatchFails failure false (limits_by costs.limits) users left left' held held'
TaskFails terminals (a_prompt prompt) failure users left left' held held' =
    PromptFails (is_plain_at terminals prompt) (limits_by prompt.limits) failure left left' held held'
TaskFails terminals (a_look keep) failure users left left' held held' = Consumes left left' []
TaskFails terminals (a_service service) failure users left left' held held' = ⊥
TaskFails terminals (some_keys keys) failure users left left' held held' = ⊥
TaskFails terminals (a_request path) failure users left left' held held' = ⊥
TaskFails terminals (a_grading grading) failure users left left' held held' = ⊥

-- What a task achieved that is run here. A batch or a prompt was answered to the end of its input. Nothing is claimed
-- of costs, and of a look at kept sessions no more than that nothing was read from the input.
abbrev pub TaskDone : Terminals → Task → (users : List (List ℕ)) → (left left' held held' : Option (List ℕ)) → Type 0
TaskDone terminals (a_batch batch) users left left' held held' =
    Served batch.is_hinted Input (limits_by batch.limits) users left left' held held'
TaskDone terminals (some_costs costs) users left left' held held' = Unit {0}
TaskDone terminals (a_prompt prompt) users left left' held held' =
    Prompted (is_plain_at terminals prompt) Input (limits_by prompt.limits) left left' held held'
TaskDone terminals (a_look keep) users left left' held held' = Consumes left left' []
TaskDone terminals (a_service service) users left left' held held' = ⊥
TaskDone terminals (some_keys keys) users left left' held held' = ⊥
TaskDone terminals (a_request path) users left left' held held' = ⊥
TaskDone terminals (a_grading grading) users left left' held held' = ⊥

-- What became of a command line that wasn't refused. Either its task is done; or it asks for a service, for
-- keys, for a request or for a grading, and nothing was read or written yet.
abbrev pub IsCarriedOut
    : Terminals → Option Offered → (words : List (List ℕ)) → (left left' held held' : Option (List ℕ)) → Type 0
IsCarriedOut terminals None words left left' held held' =
    TaskDone terminals (task_of words) (users_of words) left left' held held'
IsCarriedOut terminals (Some offered) words left left' held held' =
    (users_handed offered ≡ users_of words) × (task_handed offered ≡ task_of words)
    × Untouched left left' held held'
