use Rattle.std.proofs.Common.{sym, subst, ◌∙◌}
use Rattle.nesl_eval_code.specs.Block.{enter}
use Rattle.nesl_eval_ops.specs.View.{block_of}
use Rattle.nesl_eval_machine.specs.State.{Fits, left, left_at}
use Rattle.nesl_eval_machine.specs.Steps.{Moves}
use Rattle.nesl_eval_machine.proofs.Hands.{step_moves}
use Rattle.nesl_eval_machine.proofs.state.Machine.go_on_at_once.Goals as goal
use Rattle.nesl_eval_machine.proofs.state.Machine.go_on_at_once.Goals.{in-Enter+in_ok-enter, in_default}

pub returns : goal.returns
returns g c = λ fits.
    let t = g.T.Tops.table c.args.tops.now in
    let m = c.args.self.now in
    let n = c.go_on_at_leaves.new.self in
    let r = c.go_on_at_leaves.result in
    elim c.match-code.branch [
      | in-Enter+in_ok-enter w ↦
          let k = w.in-Enter in
          let m1 = w.enter.new.self in
          let u : Unit {0} = tt in
          let more = subst (λ s. Fits t s → Moves t s r n (left t s)) w.self-is c.go_on_at_leaves.ensures in
          let all = step_moves t m m1 n (block_of m1.code.now) u r (left_at t m (enter k.height k.span (block_of w.ops.result.now))) (w.in_ok-enter.ensures t fits) more in
          let entered = subst (λ x. Moves t m r n (left_at t m (enter k.height k.span x))) (w.ops.ensures ∙ w.deref.ensures) all in
          subst (λ b. Moves t m r n (left_at t m (block_of b))) (sym k.is) entered
      | in_default w ↦ subst (λ s. Fits t s → Moves t s r n (left t s)) w.self-is c.go_on_at_leaves.ensures fits
    ]
