use Rattle.std.proofs.Common.{◌≡◌, ℕ, List, true, false, if◌then◌else◌, subst, sym, ap, ◌∙◌, map, drop, refl, IfOk}
use Rattle.clap.specs.Simple.{App, subcommand_of}
use Rattle.clap.specs.Words.{fault_of, FailsBy}
use Rattle.nesl_words.specs.Wanted.{users_wanted, task_wanted}
use Rattle.nesl_words.specs.Rules.{program, keep_program, program_is_simple, keep_is_simple}
use Rattle.nesl_words.specs.Words.{is_keep, reader_of, words_read, users_in, task_in}
use Rattle.nesl_words.proofs.words.read.Goals as goal

-- which command reads the words
with_keep : (P : App → List (List ℕ) → Type 0) (words rest : List (List ℕ)) → is_keep words ≡ true → rest ≡ drop 1 words → P keep_program rest → P (reader_of words) (words_read words)
with_keep P words rest e is p =
    subst (λ app. P app (words_read words)) (sym (ap (λ b. if b then keep_program else program) e))
    (subst (P keep_program) (sym (ap (λ b. if b then drop 1 words else words) e ∙ sym is)) p)

without_keep : (P : App → List (List ℕ) → Type 0) (words : List (List ℕ)) → is_keep words ≡ false → P program words → P (reader_of words) (words_read words)
without_keep P words e p =
    subst (λ app. P app (words_read words)) (sym (ap (λ b. if b then keep_program else program) e))
    (subst (P program) (sym (ap (λ b. if b then drop 1 words else words) e)) p)

pub returns-in-Some-clause-users : goal.returns-in-Some-clause-users
returns-in-Some-clause-users c =
    with_keep (λ app ws. IfOk c.read_by.result (λ wanted. users_wanted wanted ≡ users_in (subcommand_of app ws))) (map (λ word. word.now) c.args.words.now) (map (λ word. word.now) c.in-Some.words.now) c.in-Some.ensures.some.0 c.in-Some.ensures.some.1
    (c.read_by.ensures.users keep_program refl c.keep_command.ensures)

pub returns-in-Some-clause-task : goal.returns-in-Some-clause-task
returns-in-Some-clause-task c =
    with_keep (λ app ws. IfOk c.read_by.result (λ wanted. task_wanted wanted.task ≡ task_in (subcommand_of app ws))) (map (λ word. word.now) c.args.words.now) (map (λ word. word.now) c.in-Some.words.now) c.in-Some.ensures.some.0 c.in-Some.ensures.some.1
    (c.read_by.ensures.task keep_program refl c.keep_command.ensures)

pub returns-in-Some-clause-faults : goal.returns-in-Some-clause-faults
returns-in-Some-clause-faults c =
    with_keep (λ app ws. FailsBy (fault_of app ws) c.read_by.result) (map (λ word. word.now) c.args.words.now) (map (λ word. word.now) c.in-Some.words.now) c.in-Some.ensures.some.0 c.in-Some.ensures.some.1
    (c.read_by.ensures.faults keep_program keep_is_simple c.keep_command.ensures)

pub returns-in-None-clause-users : goal.returns-in-None-clause-users
returns-in-None-clause-users c =
    without_keep (λ app ws. IfOk c.read_by-in-None.result (λ wanted. users_wanted wanted ≡ users_in (subcommand_of app ws))) (map (λ word. word.now) c.args.words.now) c.in-None.ensures.none (c.read_by-in-None.ensures.users program refl c.command.ensures)

pub returns-in-None-clause-task : goal.returns-in-None-clause-task
returns-in-None-clause-task c =
    without_keep (λ app ws. IfOk c.read_by-in-None.result (λ wanted. task_wanted wanted.task ≡ task_in (subcommand_of app ws))) (map (λ word. word.now) c.args.words.now) c.in-None.ensures.none (c.read_by-in-None.ensures.task program refl c.command.ensures)

pub returns-in-None-clause-faults : goal.returns-in-None-clause-faults
returns-in-None-clause-faults c =
    without_keep (λ app ws. FailsBy (fault_of app ws) c.read_by-in-None.result) (map (λ word. word.now) c.args.words.now) c.in-None.ensures.none (c.read_by-in-None.ensures.faults program program_is_simple c.command.ensures)
