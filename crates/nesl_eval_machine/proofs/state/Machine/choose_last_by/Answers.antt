use Rattle.std.proofs.Common.{◌≡◌, ap, ◌∙◌, refl, Some, None, Err, List, ◌∷◌, []}
use Rattle.std.proofs.lemmas.Result.{err_from_is_err_and}
use Rattle.nesl_values.specs.Parts.{as_bool}
use Rattle.nesl_values.specs.View.{tree_of}
use Rattle.nesl_eval_meaning.specs.Names.{Value}
use Rattle.nesl_eval_meaning.specs.Out.{Out, stuck}
use Rattle.nesl_eval_meaning.specs.Outcome.{branch}
use Rattle.nesl_eval_code.specs.Run.{Table}
use Rattle.nesl_eval_code.specs.Block.{Block, last}
use Rattle.nesl_eval_code.specs.Exec.{Places, exec}
use Rattle.nesl_eval_ops.specs.View.{block_of}
use Rattle.nesl_eval_machine.specs.State.{env_of, local_of}
use Rattle.nesl_eval_machine.proofs.Stepping.{stuck_steps}
use Rattle.nesl_eval_machine.proofs.Binding.{last_goes}
use Rattle.nesl_eval_machine.proofs.state.Machine.choose_last_by.Goals as goal

-- a test that is no truth value
nothing : (t : Table) (n : _) (env : Places) (c d : Block) (x : Value) (vs : List Value) → as_bool x ≡ None → exec t n env (last c d) (x ∷ vs) ≡ stuck
nothing t n env c d x [] h = ap (λ q. branch q (exec t n env c []) (exec t n env d [])) h
nothing t n env c d x (y ∷ vs) h = refl

pub returns-in_err-read_truth-clause-steps : goal.returns-in_err-read_truth-clause-steps
returns-in_err-read_truth-clause-steps g c = λ t fits.
    let m = c.args.self.now in
    let p = err_from_is_err_and c.from_residual.result c.from_residual.ensures.1 in
    rw (p.1, p.2) (stuck_steps {U = Unit {0}} t m m (block_of m.code.now) (Err c.in_err-read_truth.field-0.0) _
    (nothing t m.levels (env_of m) (block_of c.args.yes.now) (block_of c.args.no.now) (tree_of c.args.test) (local_of m) c.in_err-read_truth.ensures.1))

pub returns-then-branch-clause-steps : goal.returns-then-branch-clause-steps
returns-then-branch-clause-steps g c = λ t fits.
    let m = c.args.self.now in
    let o : List Value → Out Value = λ vs. exec t m.levels (env_of m) (last (block_of c.args.yes.now) (block_of c.args.no.now)) (tree_of c.args.test ∷ vs) in
    last_goes t m (block_of c.args.yes.now) o fits
    (ap (λ q. branch q (exec t m.levels (env_of m) (block_of c.args.yes.now) []) (exec t m.levels (env_of m) (block_of c.args.no.now) [])) (c.in_ok-read_truth.ensures ∙ ap Some c.if-branch.true))
    (λ y vs. refl)

pub returns-else-branch-clause-steps : goal.returns-else-branch-clause-steps
returns-else-branch-clause-steps g c = λ t fits.
    let m = c.args.self.now in
    let o : List Value → Out Value = λ vs. exec t m.levels (env_of m) (last (block_of c.args.yes.now) (block_of c.args.no.now)) (tree_of c.args.test ∷ vs) in
    last_goes t m (block_of c.args.no.now) o fits
    (ap (λ q. branch q (exec t m.levels (env_of m) (block_of c.args.yes.now) []) (exec t m.levels (env_of m) (block_of c.args.no.now) [])) (c.in_ok-read_truth.ensures ∙ ap Some c.if-branch.false))
    (λ y vs. refl)
