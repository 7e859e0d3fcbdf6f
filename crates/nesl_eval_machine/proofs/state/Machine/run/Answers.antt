use Rattle.std.proofs.Common.{Ok, Err, sym, subst, ap, ◌∙◌, []}
use Rattle.nesl_eval_machine.specs.declared.state.Hand.TheVariants.{Done}
use Rattle.nesl_eval_machine.specs.State.{left, left_at_hand}
use Rattle.nesl_eval_machine.specs.Steps.{Moves, Ends}
use Rattle.nesl_eval_machine.proofs.Stepping.{memory_any}
use Rattle.nesl_eval_machine.proofs.Whole.{begun}
use Rattle.nesl_eval_machine.proofs.Hands.{then_moves, ends_done, ends_stopped_at}
use Rattle.nesl_eval_machine.proofs.state.Machine.run.Goals as goal

pub loop-init : goal.loop-init
loop-init g c = λ fits. begun (g.T.Tops.table c.args.tops.now) c.args.self.now fits

pub loop-preserved : goal.loop-preserved
loop-preserved g c = λ fits.
    let t = g.T.Tops.table c.args.tops.now in
    let m = c.args.self.now in
    then_moves t m c.loop.self c.go_on.new.self c.loop.hand (Ok c.in-Ok.next) (left t m) (c.loop.invariant fits)
    (λ h. subst (λ r. Moves t c.loop.self r c.go_on.new.self (left_at_hand t c.loop.self c.loop.hand)) c.in-Ok.is (c.go_on.ensures h))

pub returns-in-Ok-Done : goal.returns-in-Ok-Done
returns-in-Ok-Done g c = λ fits.
    let t = g.T.Tops.table c.args.tops.now in
    let m = c.args.self.now in
    ends_done t m c.go_on.new.self c.in-Ok-Done.value (left t m)
    (then_moves t m c.loop.self c.go_on.new.self c.loop.hand (Ok (Done c.in-Ok-Done.value)) (left t m) (c.loop.invariant fits)
    (λ h. subst (λ r. Moves t c.loop.self r c.go_on.new.self (left_at_hand t c.loop.self c.loop.hand)) (c.in-Ok-Done.is ∙ ap Ok c.in-Ok-Done.field-0-is) (c.go_on.ensures h)))

pub returns-in-Err : goal.returns-in-Err
returns-in-Err g c = λ fits.
    let t = g.T.Tops.table c.args.tops.now in
    let m = c.args.self.now in
    let n = c.go_on.new.self in
    let all : Moves t m (Err c.in-Err.stop) n (left t m) =
    then_moves t m c.loop.self n c.loop.hand (Err c.in-Err.stop) (left t m) (c.loop.invariant fits)
    (λ h. subst (λ r. Moves t c.loop.self r n (left_at_hand t c.loop.self c.loop.hand)) c.in-Err.is (c.go_on.ensures h)) in
    subst (λ e. Ends m (Err e) n (left t m)) (sym c.place_stop.ensures) (ends_stopped_at t m n c.in-Err.stop (left t m) all)

pub returns : goal.returns
returns g c = λ fits. memory_any {A = g.row.A.Denot} [] c.args.self.now.meter.fuel c.loop.self.meter.fuel (left (g.T.Tops.table c.args.tops.now) c.args.self.now)
