use Rattle.std.proofs.Common.{inr, ◌≡◌, ◌+◌, ◌≤◌, ◌∷◌, arith}
use Rattle.nesl_values.specs.View.{tree_of}
use Rattle.nesl_eval_ops.specs.View.{block_of}
use Rattle.nesl_eval_machine.specs.State.{frames_of, local_of}
use Rattle.nesl_eval_machine.specs.Steps.{slots_below}
use Rattle.nesl_eval_machine.proofs.Stepping.{memory_any}
use Rattle.nesl_eval_machine.proofs.Binding.{forgotten_under}
use Rattle.nesl_eval_machine.proofs.state.Machine.forget_with.Goals as goal

pub returns-clause-moves : goal.returns-clause-moves
returns-clause-moves g c = λ t fits.
    let m = c.args.self.now in
    let at : c.in-Some.len ≡ m.base + c.args.places = omega (arith, c.in-Some.ensures) in
    let low : slots_below (frames_of m) ≤ c.in-Some.len = omega (arith, c.kept_slots.ensures) in
    inr (forgotten_under t m c.cut.new.values c.in-Some.len c.args.places (block_of c.args.next.now) (tree_of c.args.value ∷ local_of m) c.cut.ensures at low fits)

pub returns-in_default-clause-moves : goal.returns-in_default-clause-moves
returns-in_default-clause-moves g c = λ t fits.
    let m = c.args.self.now in
    memory_any (frames_of m) m.meter.fuel m.meter.fuel _

pub returns-then-len-kept_slots-clause-moves : goal.returns-then-len-kept_slots-clause-moves
returns-then-len-kept_slots-clause-moves g c = λ t fits.
    let m = c.args.self.now in
    memory_any (frames_of m) m.meter.fuel m.meter.fuel _
