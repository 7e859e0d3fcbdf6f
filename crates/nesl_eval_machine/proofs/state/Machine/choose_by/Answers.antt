use Rattle.std.proofs.Common.{ap, ◌∙◌, Some, Err, Option, Bool, ◌∷◌, []}
use Rattle.std.proofs.lemmas.Result.{err_from_is_err_and}
use Rattle.nesl_values.specs.Parts.{as_bool}
use Rattle.nesl_values.specs.View.{tree_of}
use Rattle.nesl_eval_meaning.specs.Names.{Value}
use Rattle.nesl_eval_meaning.specs.Out.{Out, and_then}
use Rattle.nesl_eval_meaning.specs.Outcome.{branch}
use Rattle.nesl_eval_code.specs.Exec.{exec}
use Rattle.nesl_eval_ops.specs.View.{block_of}
use Rattle.nesl_eval_machine.specs.State.{env_of, local_of, left_with}
use Rattle.nesl_eval_machine.proofs.Stepping.{steps_from, stuck_steps}
use Rattle.nesl_eval_machine.proofs.state.Machine.choose_by.Goals as goal

pub returns-in_err-read_truth-clause-steps : goal.returns-in_err-read_truth-clause-steps
returns-in_err-read_truth-clause-steps g c = λ t fits.
    let m = c.args.self.now in
    let o : Option Bool → Out Value = λ q. and_then (branch q (exec t m.levels (env_of m) (block_of c.args.yes.now) []) (exec t m.levels (env_of m) (block_of c.args.no.now) []))
    (λ x. exec t m.levels (env_of m) (block_of c.args.next.now) (x ∷ local_of m)) in
    let p = err_from_is_err_and c.from_residual.result c.from_residual.ensures.1 in
    rw (p.1, p.2) (stuck_steps {U = Unit {0}} t m m (block_of m.code.now) (Err c.in_err-read_truth.field-0.0) (o (as_bool (tree_of c.args.test))) (ap o c.in_err-read_truth.ensures.1))

pub returns-then-branch-clause-steps : goal.returns-then-branch-clause-steps
returns-then-branch-clause-steps g c = λ t fits.
    let m = c.args.self.now in
    let n = c.go_into.new.self in
    let o : Option Bool → Out Value = λ q. left_with t m (and_then (branch q (exec t m.levels (env_of m) (block_of c.args.yes.now) []) (exec t m.levels (env_of m) (block_of c.args.no.now) []))
    (λ x. exec t m.levels (env_of m) (block_of c.args.next.now) (x ∷ local_of m))) in
    steps_from t m n (block_of n.code.now) c.go_into.result (o (as_bool (tree_of c.args.test))) _ (ap o (c.in_ok-read_truth.ensures ∙ ap Some c.if-branch.true)) (c.go_into.ensures.steps t fits)

pub returns-else-branch-clause-steps : goal.returns-else-branch-clause-steps
returns-else-branch-clause-steps g c = λ t fits.
    let m = c.args.self.now in
    let n = c.go_into-else-branch.new.self in
    let o : Option Bool → Out Value = λ q. left_with t m (and_then (branch q (exec t m.levels (env_of m) (block_of c.args.yes.now) []) (exec t m.levels (env_of m) (block_of c.args.no.now) []))
    (λ x. exec t m.levels (env_of m) (block_of c.args.next.now) (x ∷ local_of m))) in
    steps_from t m n (block_of n.code.now) c.go_into-else-branch.result (o (as_bool (tree_of c.args.test))) _ (ap o (c.in_ok-read_truth.ensures ∙ ap Some c.if-branch.false)) (c.go_into-else-branch.ensures.steps t fits)
