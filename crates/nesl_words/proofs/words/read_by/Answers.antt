use Rattle.std.proofs.Common.{◌≡◌, true, subst, sym, ap, ◌∙◌, map, []}
use Rattle.std.proofs.lemmas.Result.{err_from_is_err_and, IfOk-at_ok}
use Rattle.clap.specs.Words.{app_of, fault_of, HasKind, HasMatchesOf}
use Rattle.clap.specs.Faults.{is_simple_and_free}
use Rattle.nesl_words.specs.Words.{users_in, task_in}
use Rattle.nesl_words.proofs.words.read_by.Goals as goal

pub returns-in_err-matches-clause-faults : goal.returns-in_err-matches-clause-faults
returns-in_err-matches-clause-faults c = λ app free made.
    let words = map (λ word. word.now) c.args.words.now in
    let is = IfOk-at_ok (λ command. app_of command ≡ app) c.in_ok-command.was made in
    let is_free = subst (λ a. is_simple_and_free a ≡ true) (sym is) free in
    let fails = subst (λ a. HasKind (fault_of a words) c.in_err-matches.field-0.0) is (c.in_err-matches.ensures.kinds is_free) in
    let p = err_from_is_err_and c.from_residual-in_err-matches.result c.from_residual-in_err-matches.ensures.1 in
    rw (p.1, p.2) fails

pub returns-clause-faults : goal.returns-clause-faults
returns-clause-faults c = λ app free made.
    let is = IfOk-at_ok (λ command. app_of command ≡ app) c.in_ok-command.was made in
    let is_free = subst (λ a. is_simple_and_free a ≡ true) (sym is) free in
    subst (λ a. fault_of a (map (λ word. word.now) c.args.words.now) ≡ []) is (c.in_ok-matches.ensures.kinds is_free)

pub returns-clause-users : goal.returns-clause-users
returns-clause-users c = λ app simple made.
    let is = IfOk-at_ok (λ command. app_of command ≡ app) c.in_ok-command.was made in
    let matches = subst (λ a. HasMatchesOf a (map (λ word. word.now) c.args.words.now) c.in_ok-matches.matches) is c.in_ok-matches.ensures.matches in
    c.in_ok-wanted_in.ensures.users ∙ ap users_in (matches simple).1

pub returns-clause-task : goal.returns-clause-task
returns-clause-task c = λ app simple made.
    let is = IfOk-at_ok (λ command. app_of command ≡ app) c.in_ok-command.was made in
    let matches = subst (λ a. HasMatchesOf a (map (λ word. word.now) c.args.words.now) c.in_ok-matches.matches) is c.in_ok-matches.ensures.matches in
    c.in_ok-wanted_in.ensures.task ∙ ap task_in (matches simple).1
