use Rattle.std.proofs.Common.{sym, subst, ◌∙◌, ◌∷◌}
use Rattle.nesl_values.specs.View.{tree_of}
use Rattle.nesl_eval_code.specs.Block.{call}
use Rattle.nesl_eval_code.specs.Exec.{exec}
use Rattle.nesl_eval_ops.specs.View.{block_of, callee_is}
use Rattle.nesl_eval_machine.specs.State.{env_of, local_of, left_with}
use Rattle.nesl_eval_machine.specs.Steps.{Moves}
use Rattle.nesl_eval_machine.proofs.state.Machine.take.Goals as goal

pub returns-in-Call : goal.returns-in-Call
returns-in-Call g c = λ fits.
    let t = g.T.Tops.table c.args.tops.now in
    let m = c.args.self.now in
    let n = c.call_with.new.self in
    let r = c.call_with.result in
    let k = c.in-Call in
    let next = c.ops.ensures ∙ c.deref.ensures in
    let done = subst (λ x. Moves t m r n (left_with t m (exec t m.levels (env_of m) (call k.height k.span (callee_is k.callee) x) (tree_of c.args.value ∷ local_of m)))) next (c.call_with.ensures fits) in
    subst (λ b. Moves t m r n (left_with t m (exec t m.levels (env_of m) (block_of b) (tree_of c.args.value ∷ local_of m)))) (sym k.is) done
