use Rattle.std.proofs.Common.{inr, ◌≡◌, ◌+◌, ◌≤◌, arith}
use Rattle.nesl_eval_ops.specs.View.{block_of}
use Rattle.nesl_eval_machine.specs.State.{frames_of}
use Rattle.nesl_eval_machine.specs.Steps.{slots_below}
use Rattle.nesl_eval_machine.proofs.Stepping.{memory_any}
use Rattle.nesl_eval_machine.proofs.Binding.{forgotten}
use Rattle.nesl_eval_machine.proofs.state.Machine.forget.Goals as goal

pub returns-clause-steps : goal.returns-clause-steps
returns-clause-steps g c = λ t fits.
    let m = c.args.self.now in
    let at : c.in-Some.len ≡ m.base + c.args.places = omega (arith, c.in-Some.ensures) in
    let low : slots_below (frames_of m) ≤ c.in-Some.len = omega (arith, c.kept_slots.ensures) in
    inr (forgotten t m c.truncate.new.self c.in-Some.len c.args.places (block_of c.args.next.now) c.truncate.ensures.items at low fits)

pub returns-in_default-clause-steps : goal.returns-in_default-clause-steps
returns-in_default-clause-steps g c = λ t fits.
    let m = c.args.self.now in
    memory_any (frames_of m) m.meter.fuel m.meter.fuel _

pub returns-then-len-kept_slots-clause-steps : goal.returns-then-len-kept_slots-clause-steps
returns-then-len-kept_slots-clause-steps g c = λ t fits.
    let m = c.args.self.now in
    memory_any (frames_of m) m.meter.fuel m.meter.fuel _
