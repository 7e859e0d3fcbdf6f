-- What came of what was asked for.
use Rattle.std.proofs.Common.{◌≡◌, ℕ, List, Bool, false, Option, refl, sym, ap, ◌∙◌, subst}
use Rattle.nesl_line.specs.declared.exchange.End.TheVariants.{Input}
use Rattle.nesl_cli.specs.declared.failure.Failure.{Failure}
use Rattle.nesl_cli.specs.declared.prompt.Terminals.{Terminals}
use Rattle.nesl_words.specs.declared.words.Task.{Task as Code}
use Rattle.nesl_words.specs.declared.words.Task.TheVariants as code
use Rattle.nesl_words.specs.declared.keep_words.Keep.{Keep as Look}
use Rattle.nesl_words.specs.declared.words.BatchWords.{BatchWords as BatchCode}
use Rattle.nesl_words.specs.declared.words.CostsWords.{CostsWords as CostsCode}
use Rattle.nesl_words.specs.declared.words.PromptWords.{PromptWords as PromptCode}
use Rattle.nesl_words.specs.Words.{Task, a_batch, a_prompt, a_look, some_costs}
use Rattle.nesl_words.specs.Wanted.{batch_wanted, costs_wanted, limits_wanted, prompt_wanted, task_wanted}
use Rattle.nesl_line.proofs.Bytes.{consumes_none}
use Rattle.nesl_cli.specs.Program.{Served, Prompted, BatchFails, PromptFails, TaskDone, TaskFails, is_plain_at, limits_by}

task_read : (read : Code) (known asked : Task) → task_wanted read ≡ known → task_wanted read ≡ asked → known ≡ asked
task_read read known asked k a = sym k ∙ a

-- what is known of the task that was read holds of the one that was asked for
module _ (Holds : Task → List (List ℕ) → Type 0) where
  asked_of : (known asked : Task) (users named : List (List ℕ)) → known ≡ asked → users ≡ named → Holds known users → Holds asked named
  asked_of known asked users named k u h =
      let P : Task → Type 0 = λ x. Holds x users in
      let Q : List (List ℕ) → Type 0 = λ x. Holds asked x in
      subst Q u (subst P k h)

-- a batch was served, or failed
pub batch_done : (terminals : Terminals) (read : Code) (batch : BatchCode) (asked : Task) (users named : List (List ℕ)) (left left' held held' : Option (List ℕ)) → read ≡ code.Batch batch → task_wanted read ≡ asked → users ≡ named
    → Served batch.is_hinted Input (limits_by (limits_wanted batch.limits)) users left left' held held' → TaskDone terminals asked named left left' held held'
batch_done terminals read batch asked users named left left' held held' r a u s =
    asked_of (λ t us. TaskDone terminals t us left left' held held') (a_batch (batch_wanted batch)) asked users named (task_read read _ asked (ap task_wanted r) a) u s

pub batch_failed : (terminals : Terminals) (read : Code) (batch : BatchCode) (asked : Task) (failure : Failure) (users named : List (List ℕ)) (left left' held held' : Option (List ℕ)) → read ≡ code.Batch batch → task_wanted read ≡ asked → users ≡ named
    → BatchFails failure batch.is_hinted (limits_by (limits_wanted batch.limits)) users left left' held held' → TaskFails terminals asked failure named left left' held held'
batch_failed terminals read batch asked failure users named left left' held held' r a u s =
    asked_of (λ t us. TaskFails terminals t failure us left left' held held') (a_batch (batch_wanted batch)) asked users named (task_read read _ asked (ap task_wanted r) a) u s

-- costs were written, or not
pub costs_done : (terminals : Terminals) (read : Code) (costs : CostsCode) (asked : Task) (named : List (List ℕ)) (left left' held held' : Option (List ℕ)) → read ≡ code.Costs costs → task_wanted read ≡ asked → TaskDone terminals asked named left left' held held'
costs_done terminals read costs asked named left left' held held' r a =
    asked_of (λ t us. TaskDone terminals t us left left' held held') (some_costs (costs_wanted costs)) asked named named (task_read read _ asked (ap task_wanted r) a) refl tt

pub costs_failed : (terminals : Terminals) (read : Code) (costs : CostsCode) (asked : Task) (failure : Failure) (users named : List (List ℕ)) (left left' held held' : Option (List ℕ)) → read ≡ code.Costs costs → task_wanted read ≡ asked → users ≡ named
    → BatchFails failure false (limits_by (limits_wanted costs.limits)) users left left' held held' → TaskFails terminals asked failure named left left' held held'
costs_failed terminals read costs asked failure users named left left' held held' r a u s =
    asked_of (λ t us. TaskFails terminals t failure us left left' held held') (some_costs (costs_wanted costs)) asked users named (task_read read _ asked (ap task_wanted r) a) u s

-- a prompt was answered to its end, or failed
pub prompt_done : (terminals : Terminals) (read : Code) (prompt : PromptCode) (asked : Task) (named : List (List ℕ)) (left left' held held' : Option (List ℕ)) → read ≡ code.Prompt prompt → task_wanted read ≡ asked
    → Prompted (is_plain_at terminals (prompt_wanted prompt)) Input (limits_by (limits_wanted prompt.limits)) left left' held held' → TaskDone terminals asked named left left' held held'
prompt_done terminals read prompt asked named left left' held held' r a s =
    asked_of (λ t us. TaskDone terminals t us left left' held held') (a_prompt (prompt_wanted prompt)) asked named named (task_read read _ asked (ap task_wanted r) a) refl s

pub prompt_failed : (terminals : Terminals) (read : Code) (prompt : PromptCode) (asked : Task) (failure : Failure) (named : List (List ℕ)) (left left' held held' : Option (List ℕ)) → read ≡ code.Prompt prompt → task_wanted read ≡ asked
    → PromptFails (is_plain_at terminals (prompt_wanted prompt)) (limits_by (limits_wanted prompt.limits)) failure left left' held held' → TaskFails terminals asked failure named left left' held held'
prompt_failed terminals read prompt asked failure named left left' held held' r a s =
    asked_of (λ t us. TaskFails terminals t failure us left left' held held') (a_prompt (prompt_wanted prompt)) asked named named (task_read read _ asked (ap task_wanted r) a) refl s

-- kept sessions were looked at, or could not be
pub look_done : (terminals : Terminals) (read : Code) (look : Look) (asked : Task) (named : List (List ℕ)) (left held held' : Option (List ℕ)) → read ≡ code.Keep look → task_wanted read ≡ asked → TaskDone terminals asked named left left held held'
look_done terminals read look asked named left held held' r a =
    asked_of (λ t us. TaskDone terminals t us left left held held') (task_wanted (code.Keep look)) asked named named (task_read read _ asked (ap task_wanted r) a) refl (consumes_none left)

pub look_failed : (terminals : Terminals) (read : Code) (look : Look) (asked : Task) (failure : Failure) (named : List (List ℕ)) (left held held' : Option (List ℕ)) → read ≡ code.Keep look → task_wanted read ≡ asked → TaskFails terminals asked failure named left left held held'
look_failed terminals read look asked failure named left held held' r a =
    asked_of (λ t us. TaskFails terminals t failure us left left held held') (task_wanted (code.Keep look)) asked named named (task_read read _ asked (ap task_wanted r) a) refl (consumes_none left)
