use Rattle.std.proofs.Common.{subst}
use Rattle.nesl_eval_ops.specs.View.{block_of}
use Rattle.nesl_eval_machine.specs.Steps.{Steps}
use Rattle.nesl_eval_machine.proofs.Hands.{step_moves}
use Rattle.nesl_eval_machine.proofs.state.Machine.after_step.Goals as goal

pub returns-in-Ok : goal.returns-in-Ok
returns-in-Ok g c = λ m o h.
    let t = g.T.Tops.table c.args.tops.now in
    let m1 = c.args.self.now in
    step_moves t m m1 c.go_on_at_once.new.self (block_of m1.code.now) c.in-Ok.field-0 c.go_on_at_once.result o
    (subst (λ d. Steps t m d m1 (block_of m1.code.now) o) c.in-Ok.is h) c.go_on_at_once.ensures
