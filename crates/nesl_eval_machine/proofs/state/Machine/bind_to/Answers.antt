use Rattle.std.proofs.Common.{inr}
use Rattle.std.proofs.lemmas.Result.{err_from_is_err_and}
use Rattle.nesl_eval_ops.specs.View.{block_of}
use Rattle.nesl_eval_machine.specs.State.{frames_of}
use Rattle.nesl_eval_machine.proofs.Stepping.{memory_any}
use Rattle.nesl_eval_machine.proofs.Binding.{bound}
use Rattle.nesl_eval_machine.proofs.state.Machine.bind_to.Goals as goal

pub returns-clause-steps : goal.returns-clause-steps
returns-clause-steps g c = λ t fits. inr (bound t c.args.self.now c.push_value.new.values c.args.value (block_of c.args.next.now) c.in_ok-push_value.ensures fits)

pub returns-in_err-push_value-clause-steps : goal.returns-in_err-push_value-clause-steps
returns-in_err-push_value-clause-steps g c = λ t fits.
    let m = c.args.self.now in
    let p = err_from_is_err_and c.from_residual.result c.from_residual.ensures.1 in
    rw (p.1, p.2, c.in_err-push_value.ensures) (memory_any (frames_of m) m.meter.fuel m.meter.fuel _)
